use Rattle.std.proofs.Common.{◌≡◌, ◌+◌, drop}
use Rattle.live_graph.specs.Places.{edge_place_in}
use Rattle.live_graph.proofs.rows.edge_place_of.Given as goal

abbrev pub invariant-loop-place : goal.invariant-loop-place
invariant-loop-place l = edge_place_in l.key l.rows ≡ l.place + edge_place_in l.key (drop l.place l.rows)
