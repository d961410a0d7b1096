use Rattle.store_laws.proofs.Spelled.{told_log, log_told}
use Rattle.store_laws.proofs.areas_are_logs.Goals as goal

pub returns-clause-told : goal.returns-clause-told
returns-clause-told c = told_log

pub returns-clause-log : goal.returns-clause-log
returns-clause-log c = log_told
