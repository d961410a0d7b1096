-- One turn of a seat: what it found, and what it remembers.
use Rattle.std.specs.List.{Contains}
use Rattle.delf_model.specs.declared.entry.Entry.{Entry}
use Rattle.seat_lock.specs.declared.view.Moment.{Moment}
use Rattle.seat_lock.specs.declared.view.View.{View}
use Rattle.delf_service.specs.declared.standing.Standing.{Standing}
use Rattle.delf_service.specs.Follows.{Follows}
use Rattle.delf_service.specs.Standings.{Sees}

-- it remembers all that it remembered before
abbrev pub Keeps : View Standing Entry → View Standing Entry → Type 0
Keeps v w = (m : Moment Standing) → Contains v.remembers m → Contains w.remembers m

-- what the seat found follows what it had seen, and it remembers what it found and what it left
pub record HadTurn (v w : View Standing Entry) (found : Standing) : Type 0 where
  pub later : Follows found v.seen.state
  pub keeps : Keeps v w
  pub was_found : Sees w.remembers found
  pub was_left : Sees w.remembers w.seen.state
