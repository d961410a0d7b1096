use Rattle.std.proofs.Common.{◌∙◌, ap, length}
use Rattle.ledger.specs.Ledgers.{Ledgered}
use Rattle.ledger.proofs.Entering.{len_after}
use Rattle.ledger.proofs.ledger.Ledger.len.Goals as goal

pub returns-clause-value : goal.returns-clause-value
returns-clause-value g c =
    c.len.ensures.state _ c.self.invariant.is_table ∙ len_after c.self.inside.rules c.self.inside.history.list ∙
    ap (λ (l : Ledgered _). length l.history) c.self.view_is
