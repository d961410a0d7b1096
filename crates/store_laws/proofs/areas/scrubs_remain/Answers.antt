use Rattle.store_laws.proofs.Remain.{remain_after, remain_less, remain_none}
use Rattle.store_laws.proofs.areas.scrubs_remain.Goals as goal

pub returns-clause-entry : goal.returns-clause-entry
returns-clause-entry c = remain_after

pub returns-clause-less : goal.returns-clause-less
returns-clause-less c = remain_less

pub returns-clause-none : goal.returns-clause-none
returns-clause-none c = remain_none
