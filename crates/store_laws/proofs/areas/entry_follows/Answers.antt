use Rattle.store_laws.proofs.Appends.{follow_may, follow_adds}
use Rattle.store_laws.proofs.areas.entry_follows.Goals as goal

pub returns-clause-may : goal.returns-clause-may
returns-clause-may c = follow_may

pub returns-clause-adds : goal.returns-clause-adds
returns-clause-adds c = follow_adds
