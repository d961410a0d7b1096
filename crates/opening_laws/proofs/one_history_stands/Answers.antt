use Rattle.opening_laws.proofs.Unique.{one_history, one_payloads}
use Rattle.opening_laws.proofs.one_history_stands.Goals as goal

pub returns-clause-history : goal.returns-clause-history
returns-clause-history c = one_history

pub returns-clause-payloads : goal.returns-clause-payloads
returns-clause-payloads c = one_payloads
