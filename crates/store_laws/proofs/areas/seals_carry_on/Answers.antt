use Rattle.store_laws.proofs.Sealed.{sealed_on}
use Rattle.store_laws.proofs.areas.seals_carry_on.Goals as goal

pub returns : goal.returns
returns c = sealed_on
