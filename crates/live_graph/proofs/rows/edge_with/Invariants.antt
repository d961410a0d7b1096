use Rattle.std.proofs.Common.{◌≡◌, drop}
use Rattle.std.specs.Prelude.{find}
use Rattle.delf_model.specs.Graph.{has_key}
use Rattle.live_graph.proofs.rows.edge_with.Given as goal

abbrev pub invariant-loop-row : goal.invariant-loop-row
invariant-loop-row l = find (has_key l.key) l.rows ≡ find (has_key l.key) (drop l.row-index l.rows)
