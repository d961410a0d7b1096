use Rattle.std.proofs.Common.{◌≡◌, ℕ, ◌%◌, ◌^◌, []}
use Rattle.seat_lock.specs.declared.view.Stage.TheVariants.{Waiting}
use Rattle.seat_lock.specs.Views.{staged}
use Rattle.seat_lock.proofs.lock.SeatLock.take_turn.Given as goal

abbrev pub invariant-loop : goal.invariant-loop
invariant-loop g l = (l.place.table_id ≡ l.fn.place.table_id) × (l.place.id ≡ l.fn.place.id) × ((t : ℕ) × (l.place.me ≡ (staged l.fn.place.me.0 (Waiting t), [])) × (l.ticket ≡ t % 2 ^ 64))
