use Rattle.std.proofs.Common.{◌≡◌, ◌≤◌, ◌++◌, replicate}
use Rattle.seat_lock.specs.Locks.{view, IsOf}
use Rattle.seat_lock.proofs.tests.numbers.fill.Given as goal

abbrev pub invariant-loop : goal.invariant-loop
invariant-loop g l = record {
  ours : IsOf l.lock l.seat;
  count : l.added ≤ l.counter;
  made : (view l.seat).made ≡ (view l.fn.seat).made ++ replicate l.added (view l.fn.seat).number;
  number : (view l.seat).number ≡ (view l.fn.seat).number;
  next : (view l.seat).next ≡ (view l.fn.seat).next;
}
