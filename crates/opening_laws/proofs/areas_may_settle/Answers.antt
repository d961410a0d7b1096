use Rattle.opening_laws.proofs.Settling.{holds_same, journal_may, settled_may, vault_may}
use Rattle.opening_laws.proofs.areas_may_settle.Goals as goal

pub returns-clause-journal : goal.returns-clause-journal
returns-clause-journal c = λ rules history sizes old now rest. journal_may rules history old now rest sizes

pub returns-clause-vault : goal.returns-clause-vault
returns-clause-vault c = λ rules history sizes old now rest. vault_may rules history old now rest sizes

pub returns-clause-holds : goal.returns-clause-holds
returns-clause-holds c = holds_same

pub returns-clause-done : goal.returns-clause-done
returns-clause-done c = settled_may
