-- What a writing call does to the standing that it finds, and what its seat has seen afterwards.
use Rattle.std.specs.Prelude.{◌≡◌, ◌≤◌, ℕ, true, false, List, [], ◌∷◌, ◌++◌, Some, Result, Ok, Err, length, slice_get, option_to_list}
use Rattle.delf_disk.specs.Causes.{Rose}
use Rattle.delf_model.specs.declared.call.Call.{Call}
use Rattle.delf_model.specs.declared.call.Refusal.{Refusal}
use Rattle.delf_model.specs.declared.call.Refusal.TheVariants as refusal
use Rattle.delf_model.specs.declared.entry.Entry.{Entry}
use Rattle.delf_model.specs.declared.entry.What.{What}
use Rattle.delf_model.specs.Legal.{Legal}
use Rattle.delf_model.specs.Payloads.{Payloads, payloads_after}
use Rattle.delf_model.specs.Reply.{reply}
use Rattle.delf_model.specs.Room.{moment_of}
use Rattle.store_laws.specs.Stores.{digest}
use Rattle.delf_book.specs.Books.{given_by, started_by, restored_items}
use Rattle.delf_book.specs.declared.answers.Receipt.{Receipt}
use Rattle.delf_service.specs.declared.answers.Answer.{Answer}
use Rattle.delf_service.specs.declared.standing.Standing.{Standing}
use Rattle.seat_lock.specs.declared.view.View.{View}
use Rattle.delf_service.specs.Standings.{IsCaused, IsPlain, payloads_of, seat_of, state_at}
use Rattle.delf_service.specs.Turns.{HadTurn}

-- the entry that a call or step adds where the clock says `now`
abbrev pub entry_in : Standing → ℕ → What → Entry
entry_in s now what = record { moment = moment_of (state_at s) now; what = what }

-- the history has this entry more, and these are the payloads behind it
abbrev pub with_entry : Standing → Entry → Payloads → Standing
with_entry s e p = record s { history = s.history ++ e ∷ []; payloads = p.bytes; seals = p.seals }

-- the payloads are those behind an entry that was given these bytes, where the disk is plain
abbrev pub PayloadsIn : Standing → Standing → Entry → List ℕ → Type 0
PayloadsIn x y e given = IsPlain x.key → payloads_of y ≡ payloads_after digest (state_at x) e given (payloads_of x)

-- a disk fault: history and payloads stay, and the book is down
pub record Falls (x y : Standing) : Type 0 where
  pub up : x.down ≡ false
  pub left : y ≡ record x { faults = y.faults; down = true }
  pub later : x.faults ≤ y.faults
  pub rose : Rose x.faults y.faults

-- a down book answers that it is down, at its length
pub record IsDown (x y : Standing) (len : ℕ) : Type 0 where
  pub down : x.down ≡ true
  pub length_is : len ≡ length x.history
  pub same : y ≡ x

-- the call was accepted: its entry stands behind those that were found, and has the number of the seat, and its own bytes
-- are what it added
pub record AcceptedIn (x y : Standing) (now seat : ℕ) (call : Call) (receipt : Receipt) : Type 0 where
  pub up : x.down ≡ false
  pub what : What
  pub is_reply : reply (state_at x) (moment_of (state_at x) now) seat call ≡ Ok what
  pub maker : seat_of (entry_in x now what) ≡ Some seat
  pub left : y ≡ with_entry x (entry_in x now what) (payloads_of y)
  pub payloads : PayloadsIn x y (entry_in x now what) (given_by call)
  pub position : receipt.position ≡ length x.history
  pub started : receipt.started ≡ started_by (state_at x) what
  pub items : receipt.items ≡ restored_items (state_at x) what

-- the call would have been accepted, and met a disk fault
pub record InterruptedIn (x y : Standing) (now seat : ℕ) (call : Call) (len : ℕ) : Type 0 where
  pub what : What
  pub is_reply : reply (state_at x) (moment_of (state_at x) now) seat call ≡ Ok what
  pub falls : Falls x y
  pub length_is : len ≡ length x.history

-- the answer to a call that finds the standing x and leaves y
abbrev pub AnswersIn : Standing → Standing → ℕ → ℕ → Call → Result Receipt Refusal → Type 0
AnswersIn x y now seat call (Ok receipt) = AcceptedIn x y now seat call receipt
AnswersIn x y now seat call (Err (refusal.Down len)) = IsDown x y len
AnswersIn x y now seat call (Err refusal.OutOfMemory) = (x.down ≡ false) × (y ≡ x)
AnswersIn x y now seat call (Err (refusal.DiskFault len)) = InterruptedIn x y now seat call len
AnswersIn x y now seat call (Err other) =
    (x.down ≡ false) × (reply (state_at x) (moment_of (state_at x) now) seat call ≡ Err other) × (y ≡ x)

-- A call finds a legal history, answers at its length, and does what the answer says. A book that it leaves down met a fault
-- since its opening
pub record CallsIn (x y : Standing) (now seat : ℕ) (call : Call) (a : Answer) : Type 0 where
  pub legal : Legal x.key.rules x.history
  pub at_is : a.at ≡ length x.history
  pub answers : AnswersIn x y now seat call a.reply
  pub cause : IsCaused y

-- a call of a seat: it found a standing that follows what the seat had seen
pub record Submitted (v w : View Standing Entry) (now : ℕ) (call : Call) (a : Answer) : Type 0 where
  pub found : Standing
  pub turn : HadTurn v w found
  pub calls : CallsIn found w.seen.state now v.number call a

-- the entries that a call adds: where it was accepted, the one at the length of its answer
abbrev pub own_entries : Standing → Answer → Result Receipt Refusal → List Entry
own_entries s a (Ok receipt) = option_to_list (slice_get s.history a.at)
own_entries s a (Err other) = []

abbrev pub added_by : Standing → Answer → List Entry
added_by s a = own_entries s a a.reply
