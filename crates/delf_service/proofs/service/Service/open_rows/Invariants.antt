use Rattle.std.proofs.Common.{◌≡◌, ◌++◌, ℕ, Some, length, map}
use Rattle.std.specs.Prelude.{slice_get, vec_capacity}
use Rattle.std.specs.Vec.Iter.{into_iter_items, into_iter_len}
use Rattle.seat_lock.specs.Locks.{view, IsOf}
use Rattle.delf_service.specs.Openings.{has_next, OpenedAt}
use Rattle.delf_service.proofs.service.Service.open_rows.Given as goal

abbrev pub invariant-loop-replies : goal.invariant-loop-replies
invariant-loop-replies g l = record {
  ours : IsOf l.self.lock l.root;
  root : view l.root ≡ has_next (view l.fn.root) (length l.yielded);
  lists : map (λ row. row.replies) l.rows.items ≡ l.yielded;
  room : vec_capacity l.rows ≡ vec_capacity l.fn.rows;
  each : (k : ℕ) (row : _) → slice_get l.rows.items k ≡ Some row → IsOf l.self.lock row.seat × OpenedAt (view l.fn.root) k (view row.seat);
  rest : l.yielded ++ into_iter_items l.replies-iterator ≡ into_iter_items l.initial.replies-iterator;
  len : into_iter_len l.replies-iterator ≡ length (into_iter_items l.replies-iterator);
}
