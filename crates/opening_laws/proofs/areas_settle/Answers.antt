use Rattle.opening_laws.proofs.Settling.{journal_settles, vault_settles}
use Rattle.opening_laws.proofs.areas_settle.Goals as goal

pub returns-clause-journal : goal.returns-clause-journal
returns-clause-journal c = journal_settles

pub returns-clause-vault : goal.returns-clause-vault
returns-clause-vault c = vault_settles
