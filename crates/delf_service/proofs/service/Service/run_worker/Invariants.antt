use Rattle.std.proofs.Common.{◌≡◌}
use Rattle.seat_lock.specs.Locks.{view, IsOf}
use Rattle.seat_lock.specs.Views.{IsSameSeat}
use Rattle.delf_service.specs.Follows.{Follows}
use Rattle.delf_service.specs.Turns.{Keeps}
use Rattle.delf_service.specs.Workers.{HasTurned}
use Rattle.delf_service.proofs.service.Service.run_worker.Given as goal

abbrev pub invariant-loop-turn : goal.invariant-loop-turn
invariant-loop-turn g l = record {
  ours : IsOf l.self.lock l.seat;
  same : IsSameSeat (view l.fn.seat) (view l.seat);
  made : (view l.seat).made ≡ (view l.fn.seat).made;
  keeps : Keeps (view l.fn.seat) (view l.seat);
  later : Follows (view l.seat).seen.state (view l.fn.seat).seen.state;
  turned : HasTurned l.now l._turn (view l.fn.seat).seen.state (view l.seat).seen.state;
}
