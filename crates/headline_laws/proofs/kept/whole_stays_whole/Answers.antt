use Rattle.headline_laws.proofs.Keeping as of
use Rattle.headline_laws.proofs.kept.whole_stays_whole.Goals as goal

pub returns : goal.returns
returns c = of.stays_sealed
