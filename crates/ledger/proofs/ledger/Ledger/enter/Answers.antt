use Rattle.std.proofs.Common.{false}
use Rattle.delf_model.specs.Step.{after}
use Rattle.ledger.proofs.Entering.{legal_in, ready_in, held_in, can_change, keeps_push}
use Rattle.ledger.proofs.ledger.Ledger.enter.Goals as goal

pub carry_out-requires : goal.carry_out-requires
carry_out-requires g c =
    can_change c.self.inside.rules c.self.inside.history.list c.self.inside.jobs (g.G.GraphStore.graph c.self.inside.graph)
    (g.G.GraphStore.counts c.self.inside.graph) c.args.entry.now (g.G.GraphStore.is_ready_object c.self.inside.graph)
    (g.G.GraphStore.is_ready_edge c.self.inside.graph) _ c.self.invariant
    (legal_in _ _ c.args.entry.now c.self.view_is c.requires.legal)
    (ready_in g.G.GraphStore.is_ready_object g.G.GraphStore.is_ready_edge _ _ c.args.entry.now.what c.self.view_is c.requires.ready)
    (c.edit_of-edit.ensures _ c.self.invariant.is_table c.self.invariant.is_graph)

pub invariant_of-self : goal.invariant_of-self
invariant_of-self g c =
    let legal = legal_in _ _ c.args.entry.now c.self.view_is c.requires.legal in
    rw c.push.ensures.list
    (keeps_push c.self.inside.rules c.self.inside.history.list c.self.inside.jobs c.apply.new.self (g.G.GraphStore.graph c.self.inside.graph) _
    (g.G.GraphStore.counts c.self.inside.graph) _ c.args.entry.now _ c.self.invariant legal c.is_spelled.ensures
    (c.apply.ensures.table _ c.self.invariant.is_table c.self.invariant.is_graph legal)
    (c.edit_of-edit.ensures _ c.self.invariant.is_table c.self.invariant.is_graph) c.carry_out.ensures.graph c.carry_out.ensures.counts
    (c.held_steps_stay.ensures c.self.inside.rules c.self.inside.history.list c.self.invariant.is_legal) (held_in _ _ c.args.entry.now.what false c.self.view_is c.requires.free)
    c.apply.ensures.held)

pub is_spelled-requires : goal.is_spelled-requires
is_spelled-requires g c = (after c.self.inside.rules c.self.inside.history.list, c.self.invariant.is_graph.rules, legal_in _ _ c.args.entry.now c.self.view_is c.requires.legal)
