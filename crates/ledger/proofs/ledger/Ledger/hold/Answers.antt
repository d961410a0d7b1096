use Rattle.std.proofs.Common.{false}
use Rattle.ledger.proofs.Entering.{held_in, once_in, keeps_hold}
use Rattle.ledger.proofs.Holding.{is_erasing_of}
use Rattle.ledger.proofs.ledger.Ledger.hold.Goals as goal

pub hold-requires-clause-erasing : goal.hold-requires-clause-erasing
hold-requires-clause-erasing g c = is_erasing_of c.args.step.now c.requires.takes

pub invariant_of-self : goal.invariant_of-self
invariant_of-self g c =
    keeps_hold c.self.inside.rules c.self.inside.history.list c.self.inside.jobs c.hold.new.self (g.G.GraphStore.graph c.self.inside.graph) (g.G.GraphStore.counts c.self.inside.graph)
    c.args.step.now c.self.invariant (c.held_steps_stay.ensures c.self.inside.rules c.self.inside.history.list c.self.invariant.is_legal) c.requires.takes
    (once_in _ _ c.args.step.now c.self.view_is c.requires.legal) (held_in _ _ c.args.step.now false c.self.view_is c.requires.free) c.hold.ensures
