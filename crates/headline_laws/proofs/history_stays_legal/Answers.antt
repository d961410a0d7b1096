use Rattle.headline_laws.proofs.Onward as of
use Rattle.headline_laws.proofs.history_stays_legal.Goals as goal

pub returns : goal.returns
returns c = of.stays_legal
