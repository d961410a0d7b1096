use Rattle.delf_model.specs.Graph.{rewritten}
use Rattle.live_graph.proofs.Loops.{MapsInPlace}
use Rattle.live_graph.proofs.rows.rewrite.Given as goal

abbrev pub invariant-loop-i : goal.invariant-loop-i
invariant-loop-i l = MapsInPlace (rewritten l.fn.id l.fn.at l.fn.size) l.initial.rows l.rows l.i
