use Rattle.headline_laws.proofs.Keeping as of
use Rattle.headline_laws.proofs.kept.payloads_stay.Goals as goal

pub returns : goal.returns
returns c = of.keeps_payloads
