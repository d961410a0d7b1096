use Rattle.store_laws.proofs.Appends.{journal_stands, vault_stands, journal_sizes, vault_sizes}
use Rattle.store_laws.proofs.areas.logs_stand.Goals as goal

pub returns-clause-journal : goal.returns-clause-journal
returns-clause-journal c = journal_stands

pub returns-clause-vault : goal.returns-clause-vault
returns-clause-vault c = vault_stands

pub returns-clause-journal_sizes : goal.returns-clause-journal_sizes
returns-clause-journal_sizes c = journal_sizes

pub returns-clause-vault_sizes : goal.returns-clause-vault_sizes
returns-clause-vault_sizes c = vault_sizes
