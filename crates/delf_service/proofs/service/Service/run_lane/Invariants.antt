use Rattle.std.proofs.Common.{◌≡◌, ℕ, length}
use Rattle.std.specs.Prelude.{vec_capacity}
use Rattle.seat_lock.specs.Locks.{view, IsOf}
use Rattle.seat_lock.specs.Views.{IsSameSeat}
use Rattle.delf_service.specs.Follows.{Follows}
use Rattle.delf_service.specs.Lanes.{AreFed, LaneTold}
use Rattle.delf_service.specs.Turns.{Keeps}
use Rattle.delf_service.specs.Workers.{HasMade}
use Rattle.delf_service.proofs.service.Service.run_lane.Given as goal

abbrev pub invariant-loop-command : goal.invariant-loop-command
invariant-loop-command g l = record {
  ours : IsOf l.self.lock l.seat;
  same : IsSameSeat (view l.fn.seat) (view l.seat);
  later : Follows (view l.seat).seen.state (view l.fn.seat).seen.state;
  count : length l.replies.items ≡ l.command-index;
  room : vec_capacity l.replies ≡ vec_capacity l.fn.replies;
  keeps : Keeps (view l.fn.seat) (view l.seat);
  turns : (n : ℕ) × HasMade n (view l.fn.seat).seen.state (view l.seat).seen.state;
  fed : AreFed l.replies.items;
  told : LaneTold (view l.seat).remembers (view l.seat).seen.state l.now (view l.fn.seat).number (view l.seat).made l.commands l.replies.items;
}
