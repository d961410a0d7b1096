use Rattle.store_laws.proofs.Appends.{journal_may, journal_adds}
use Rattle.store_laws.proofs.areas.journal_appends.Goals as goal

pub returns-clause-may : goal.returns-clause-may
returns-clause-may c = journal_may

pub returns-clause-adds : goal.returns-clause-adds
returns-clause-adds c = journal_adds
