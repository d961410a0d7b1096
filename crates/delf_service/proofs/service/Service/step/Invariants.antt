use Rattle.std.proofs.Common.{◌≡◌}
use Rattle.seat_lock.specs.Locks.{view, IsOf}
use Rattle.seat_lock.specs.Views.{IsSameSeat}
use Rattle.delf_service.specs.Works.{Passed}
use Rattle.delf_service.proofs.service.Service.step.Given as goal

abbrev pub invariant-loop-round : goal.invariant-loop-round
invariant-loop-round g l = record {
  ours : IsOf l.self.lock l.seat;
  same : IsSameSeat (view l.fn.seat) (view l.seat);
  made : (view l.seat).made ≡ (view l.fn.seat).made;
  passed : Passed (view l.fn.seat) (view l.seat);
}
