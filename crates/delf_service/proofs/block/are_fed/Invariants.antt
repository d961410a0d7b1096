use Rattle.std.proofs.Common.{◌≡◌, ◌<◌, ℕ, Some, false}
use Rattle.std.specs.Prelude.{slice_get}
use Rattle.delf_service.proofs.block.are_fed.Given as goal

abbrev pub invariant-loop-row : goal.invariant-loop-row
invariant-loop-row g l = (k : ℕ) (row : _) → slice_get l.rows k ≡ Some row → k < l.row-index → row.starved ≡ false
