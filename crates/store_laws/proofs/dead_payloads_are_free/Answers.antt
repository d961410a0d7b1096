use Rattle.store_laws.proofs.Dead.{journal_dead, vault_dead}
use Rattle.store_laws.proofs.dead_payloads_are_free.Goals as goal

pub returns-clause-journal : goal.returns-clause-journal
returns-clause-journal c = journal_dead

pub returns-clause-vault : goal.returns-clause-vault
returns-clause-vault c = vault_dead
