use Rattle.std.proofs.Common.{◌<◌, ℕ}
use Rattle.schema_checks.specs.Routes.{BeginsShortest}
use Rattle.schema_checks.proofs.first_edge.first_edge.Given as goal

abbrev pub invariant-loop-row : goal.invariant-loop-row
invariant-loop-row l = (other : ℕ) → other < l.row → BeginsShortest l.rules l.kind l.edges other → ⊥
