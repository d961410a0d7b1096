use Rattle.std.proofs.Common.{sym, ap, ◌∙◌}
use Rattle.edge_index.proofs.Copies.{copied_more, copied_none}
use Rattle.edge_index.proofs.shapes.shapes_of.Goals as goal
use Rattle.edge_index.proofs.shapes.shapes_of.Goals.{in-Some+in_ok-push, in_default}

pub loop-edge-preserved : goal.loop-edge-preserved
loop-edge-preserved c =
    elim c.match-edge.branch [
      | in-Some+in_ok-push w ↦ copied_more c.args.rules.now.edges c.loop-edge.shapes.items c.match-edge.shapes.items c.loop-edge.edge w.in-Some.shape
          c.loop-edge.invariant w.in-Some.ensures (ap (λ v. v.items) w.shapes-is ∙ w.in_ok-push.ensures.items)
      | in_default w ↦ ap (λ v. v.items) w.shapes-is ∙ copied_none c.args.rules.now.edges c.loop-edge.shapes.items c.loop-edge.edge c.loop-edge.invariant (sym w.in_default.is ∙ c.edge.ensures)
    ]
