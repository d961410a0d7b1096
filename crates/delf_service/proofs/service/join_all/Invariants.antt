use Rattle.std.proofs.Common.{◌≡◌, ◌++◌, length, map}
use Rattle.std.specs.Vec.Iter.{into_iter_items, into_iter_len}
use Rattle.seat_lock.specs.Locks.{view, IsOf}
use Rattle.delf_service.specs.Seats.{JoinedTo}
use Rattle.delf_service.proofs.service.join_all.Given as goal

abbrev pub invariant-loop-seat : goal.invariant-loop-seat
invariant-loop-seat g l = record {
  ours : IsOf l.lock l.root;
  joined : JoinedTo (view l.fn.root) (view l.root) (map (λ s. view s) l.yielded);
  rest : l.yielded ++ into_iter_items l.seat-iterator ≡ into_iter_items l.initial.seat-iterator;
  len : into_iter_len l.seat-iterator ≡ length (into_iter_items l.seat-iterator);
}
