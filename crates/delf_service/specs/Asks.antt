-- What a question of a seat finds, and what it leaves.
use Rattle.std.specs.Prelude.{◌≡◌, ◌≤◌, ℕ, Bool, true, false, List, Option, Some, None, length, take}
use Rattle.delf_model.specs.declared.TheConstants.{LIMIT}
use Rattle.delf_model.specs.declared.entry.Entry.{Entry}
use Rattle.delf_model.specs.declared.rows.ObjectRow.{ObjectRow}
use Rattle.delf_model.specs.Legal.{Legal}
use Rattle.delf_model.specs.Payloads.{payload_at}
use Rattle.delf_book.specs.declared.answers.BookFault.{BookFault}
use Rattle.delf_book.specs.declared.answers.BookFault.TheVariants as fault
use Rattle.ledger.specs.Ledgers.{found}
use Rattle.seat_lock.specs.declared.view.View.{View}
use Rattle.delf_service.specs.declared.answers.Asked.{Asked}
use Rattle.delf_service.specs.declared.standing.Standing.{Standing}
use Rattle.delf_service.specs.Calls.{Falls, IsDown}
use Rattle.delf_service.specs.Standings.{IsCaused, IsPlain, payloads_of, state_at}
use Rattle.delf_service.specs.Turns.{HadTurn}

-- Of a book that is up the payload was read, or there is none, or the disk failed. A down book answers that it is down
-- whether the object is there or not
abbrev pub ReadsIn : Standing → Standing → Option (ObjectRow × Option ℕ) → Option BookFault → Type 0
ReadsIn x y None None = (x.down ≡ false) × (y ≡ x)
ReadsIn x y None (Some (fault.Down len)) = IsDown x y len
ReadsIn x y None (Some (fault.DiskFault len)) = ⊥
ReadsIn x y (Some row) None = (x.down ≡ false) × (y ≡ x)
ReadsIn x y (Some row) (Some (fault.Down len)) = IsDown x y len
ReadsIn x y (Some row) (Some (fault.DiskFault len)) = Falls x y × (len ≡ length x.history)

-- what is told of a book of this length where no object is found
abbrev pub down_fault : Bool → ℕ → Option BookFault
down_fault true len = Some (fault.Down len)
down_fault false len = None

-- the bytes at the front are the payload of the row, where it was read
abbrev pub ReadsTo : Standing → Option (ObjectRow × Option ℕ) → Option BookFault → List ℕ → Type 0
ReadsTo x None why bytes = Unit {0}
ReadsTo x (Some row) (Some why) bytes = Unit {0}
ReadsTo x (Some row) None bytes = (row.0.size ≤ LIMIT) × (IsPlain x.key → take row.0.size bytes ≡ payload_at (payloads_of x) row.0.at)

-- a question finds a legal history, and answers the row there
pub record AsksIn (x y : Standing) (id : ℕ) (bytes : List ℕ) (asked : Asked) : Type 0 where
  pub legal : Legal x.key.rules x.history
  pub at_is : asked.at ≡ length x.history
  pub found_is : asked.found ≡ found (state_at x) id
  pub reads : ReadsIn x y asked.found asked.fault
  pub payload : ReadsTo x asked.found asked.fault bytes
  pub cause : IsCaused y

-- a question of a seat: it found a standing that follows what the seat had seen
pub record Inquired (v w : View Standing Entry) (id : ℕ) (bytes : List ℕ) (asked : Asked) : Type 0 where
  pub found : Standing
  pub turn : HadTurn v w found
  pub asks : AsksIn found w.seen.state id bytes asked
