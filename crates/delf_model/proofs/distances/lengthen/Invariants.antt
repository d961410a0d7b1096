use Rattle.std.proofs.Common.{◌≡◌, ◌≤◌, ◌<◌, false, true}
use Rattle.delf_model.specs.Distances.{unknown_count}
use Rattle.delf_model.proofs.RouteLemmas.{IsWithinRound}
use Rattle.delf_model.proofs.distances.lengthen.Given as goal

abbrev pub invariant-loop-row : goal.invariant-loop-row
invariant-loop-row l =
    IsWithinRound l.numbering l.edges l.row l.distances
    × (unknown_count l.distances ≤ unknown_count l.initial.distances)
    × (l.more ≡ true → unknown_count l.distances < unknown_count l.initial.distances)
    × (l.more ≡ false → l.distances ≡ l.initial.distances)
