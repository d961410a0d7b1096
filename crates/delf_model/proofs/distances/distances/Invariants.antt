use Rattle.std.proofs.Common.{◌≤◌, ◌+◌}
use Rattle.delf_model.specs.Distances.{AreDistancesBelow, unknown_count}
use Rattle.delf_model.proofs.distances.distances.Given as goal

abbrev pub invariant-loop-edges : goal.invariant-loop-edges
invariant-loop-edges l =
    (1 ≤ l.edges) × (l.edges + unknown_count l.distances.items ≤ 65) × AreDistancesBelow l.numbering l.edges l.distances.items

abbrev pub decreases-loop-edges : goal.decreases-loop-edges
decreases-loop-edges l = unknown_count l.distances.items
