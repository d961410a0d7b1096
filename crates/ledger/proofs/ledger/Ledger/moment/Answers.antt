use Rattle.ledger.proofs.Entering.{moment_bound}
use Rattle.ledger.proofs.ledger.Ledger.moment.Goals as goal

pub returns-clause-within : goal.returns-clause-within
returns-clause-within g c =
    moment_bound c.self.inside.rules c.self.inside.history.list c.moment.result c.self.invariant.is_legal
    (c.moment.ensures _ c.self.invariant.is_table)
