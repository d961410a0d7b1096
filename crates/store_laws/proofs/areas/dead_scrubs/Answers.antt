use Rattle.store_laws.proofs.Scrubs.{journal_may, journal_scrubs, vault_may, vault_scrubs}
use Rattle.store_laws.proofs.areas.dead_scrubs.Goals as goal

pub returns-clause-journal_may : goal.returns-clause-journal_may
returns-clause-journal_may c = journal_may

pub returns-clause-journal : goal.returns-clause-journal
returns-clause-journal c = journal_scrubs

pub returns-clause-vault_may : goal.returns-clause-vault_may
returns-clause-vault_may c = vault_may

pub returns-clause-vault : goal.returns-clause-vault
returns-clause-vault c = vault_scrubs
