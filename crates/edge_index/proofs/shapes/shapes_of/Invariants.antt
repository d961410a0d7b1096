use Rattle.std.proofs.Common.{◌≡◌, take}
use Rattle.edge_index.proofs.shapes.shapes_of.Given as goal

abbrev pub invariant-loop-edge : goal.invariant-loop-edge
invariant-loop-edge l = l.shapes.items ≡ take l.edge l.rules.edges
