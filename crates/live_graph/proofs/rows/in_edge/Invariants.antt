use Rattle.std.proofs.Common.{◌≡◌, drop}
use Rattle.std.specs.Prelude.{filter, slice_get}
use Rattle.delf_model.specs.Graph.{leads_to}
use Rattle.live_graph.proofs.rows.in_edge.Given as goal

abbrev pub invariant-loop-row : goal.invariant-loop-row
invariant-loop-row l = slice_get (filter (leads_to l.fn.id) l.rows) l.fn.i ≡ slice_get (filter (leads_to l.fn.id) (drop l.row-index l.rows)) l.left
