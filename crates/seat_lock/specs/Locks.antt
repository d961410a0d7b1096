-- What the clauses see of a lock and of a seat.
use Rattle.std.specs.Prelude.{◌≡◌}
use Rattle.seat_lock.specs.declared.counted.Counted.{Ghosts}
use Rattle.seat_lock.specs.declared.lock.SeatLock.{SeatLock}
use Rattle.seat_lock.specs.declared.lock.Seat.{Seat}
use Rattle.seat_lock.specs.declared.view.View.{View}

module _ {T S E : Type 0} {g : Ghosts T S E} where
  -- what a seat knows
  abbrev pub view : Seat T S E g → View S E
  view seat = seat.place.me.0

  -- the seat is one of the lock
  abbrev pub IsOf : SeatLock T S E → Seat T S E g → Type 0
  IsOf lock seat = seat.place.table_id ≡ lock.table.shared.table_id

-- the value that the lock began with
abbrev pub start_of : {T S E : Type 0} → SeatLock T S E → T
start_of lock = lock.table.shared.key.start.value
