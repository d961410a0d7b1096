use Rattle.headline_laws.proofs.Onward as of
use Rattle.headline_laws.proofs.history_goes_on.Goals as goal

pub returns : goal.returns
returns c = of.history_goes_on
