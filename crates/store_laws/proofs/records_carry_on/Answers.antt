use Rattle.store_laws.proofs.Carry.{carry_on}
use Rattle.store_laws.proofs.records_carry_on.Goals as goal

pub returns : goal.returns
returns c = carry_on
