use Rattle.headline_laws.proofs.Keeping as of
use Rattle.headline_laws.proofs.kept.no_damage_is_met.Goals as goal

pub returns : goal.returns
returns c = of.never_damaged
