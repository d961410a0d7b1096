use Rattle.std.proofs.Common.{◌≡◌, ◌≤◌, ℕ, Some, length}
use Rattle.std.specs.Prelude.{slice_get, vec_capacity}
use Rattle.delf_service.specs.Openings.{HasRoom}
use Rattle.delf_service.specs.Rows.{commands_at}
use Rattle.delf_service.proofs.block.lists_for.Given as goal

abbrev pub invariant-loop-place : goal.invariant-loop-place
invariant-loop-place l = record {
  count : length l.lists.items ≡ l.place;
  room : l.rows ≤ vec_capacity l.lists;
  each : (k : ℕ) (r : _) → slice_get l.lists.items k ≡ Some r → HasRoom (commands_at l.lanes k) r.items (vec_capacity r);
}
