-- What is told of a lane's commands, in words of any standing that came after them.
use Rattle.std.specs.Prelude.{◌≡◌, ◌≤◌, ◌<◌, ℕ, ◌+◌, ◌⊎◌, true, false, List, [], ◌∷◌, ◌++◌, Option, Some, None, Result, Ok, Err, length, min, slice_get, take}
use Rattle.delf_model.specs.declared.TheConstants.{LIMIT}
use Rattle.delf_model.specs.declared.call.Call.{Call}
use Rattle.delf_model.specs.declared.call.Refusal.{Refusal}
use Rattle.delf_model.specs.declared.call.Refusal.TheVariants as refusal
use Rattle.delf_model.specs.declared.entry.Entry.{Entry}
use Rattle.delf_model.specs.declared.entry.What.{What}
use Rattle.delf_model.specs.declared.rows.ObjectRow.{ObjectRow}
use Rattle.delf_model.specs.declared.script.LaneCommand.{LaneCommand}
use Rattle.delf_model.specs.declared.script.LaneCommand.TheVariants.{Submit, Get}
use Rattle.delf_model.specs.RuleSet.{RuleSet}
use Rattle.delf_model.specs.State.{State}
use Rattle.delf_model.specs.Step.{after}
use Rattle.delf_model.specs.Reply.{reply}
use Rattle.delf_model.specs.Room.{moment_of}
use Rattle.delf_model.specs.Payloads.{payload_at}
use Rattle.delf_book.specs.Books.{HasNumbers, given_by, started_by, restored_items}
use Rattle.delf_book.specs.declared.answers.BookFault.{BookFault}
use Rattle.delf_book.specs.declared.answers.BookFault.TheVariants as fault
use Rattle.delf_book.specs.declared.answers.Receipt.{Receipt}
use Rattle.ledger.specs.Ledgers.{found}
use Rattle.seat_lock.specs.declared.view.Moment.{Moment}
use Rattle.seat_lock.specs.declared.view.View.{View}
use Rattle.delf_service.specs.declared.answers.Asked.{Asked}
use Rattle.delf_service.specs.declared.replies.LaneReply.{LaneReply}
use Rattle.delf_service.specs.declared.replies.LaneReply.TheVariants.{Submitted, Got}
use Rattle.delf_service.specs.declared.standing.Standing.{Standing}
use Rattle.delf_service.specs.Calls.{PayloadsIn, added_by, with_entry}
use Rattle.delf_service.specs.Follows.{Follows}
use Rattle.delf_service.specs.Standings.{IsPlain, Sees, payloads_of, seat_of}
use Rattle.delf_service.specs.Turns.{Keeps}
use Rattle.delf_service.specs.Workers.{LeavesAll}

-- the state at a length
abbrev pub state_before : Standing → ℕ → State
state_before s at = after s.key.rules (take at s.history)

-- the entry that a call or step adds at that length, where the clock says `now`
abbrev pub entry_before : Standing → ℕ → ℕ → What → Entry
entry_before s at now what = record { moment = moment_of (state_before s at) now; what = what }

-- In one turn of those that are remembered a book of this length got an entry, and these bytes with it
pub record Brings (turns : List (Moment Standing)) (at : ℕ) (e : Entry) (given : List ℕ) : Type 0 where
  pub found : Standing
  pub left : Standing
  pub was_found : Sees turns found
  pub was_left : Sees turns left
  pub length_is : length found.history ≡ at
  pub left_is : left ≡ with_entry found e (payloads_of left)
  pub payloads : PayloadsIn found left e given

-- a call was accepted at this length: its entry stands there, has the number of the seat, and brought the call's bytes
pub record TellsAccepted (turns : List (Moment Standing)) (s : Standing) (now seat : ℕ) (call : Call) (at : ℕ) (receipt : Receipt) : Type 0 where
  pub what : What
  pub is_reply : reply (state_before s at) (moment_of (state_before s at) now) seat call ≡ Ok what
  pub stands : slice_get s.history at ≡ Some (entry_before s at now what)
  pub maker : seat_of (entry_before s at now what) ≡ Some seat
  pub position : receipt.position ≡ at
  pub started : receipt.started ≡ started_by (state_before s at) what
  pub items : receipt.items ≡ restored_items (state_before s at) what
  pub brings : Brings turns at (entry_before s at now what) (given_by call)

-- the book is down, with a history of this length
pub record TellsDown (s : Standing) (at len : ℕ) : Type 0 where
  pub down : s.down ≡ true
  pub length_is : len ≡ length s.history
  pub at_is : at ≡ len

-- the call would have been accepted at this length, and met a disk fault
pub record TellsInterrupted (s : Standing) (now seat : ℕ) (call : Call) (at len : ℕ) : Type 0 where
  pub what : What
  pub is_reply : reply (state_before s at) (moment_of (state_before s at) now) seat call ≡ Ok what
  pub down : TellsDown s at len

-- the answer to a call is that of the book at its length
abbrev pub TellsAnswer : List (Moment Standing) → Standing → ℕ → ℕ → Call → ℕ → Result Receipt Refusal → Type 0
TellsAnswer turns s now seat call at (Ok receipt) = TellsAccepted turns s now seat call at receipt
TellsAnswer turns s now seat call at (Err (refusal.Down len)) = TellsDown s at len
TellsAnswer turns s now seat call at (Err refusal.OutOfMemory) = Unit {0}
TellsAnswer turns s now seat call at (Err (refusal.DiskFault len)) = TellsInterrupted s now seat call at len
TellsAnswer turns s now seat call at (Err other) = reply (state_before s at) (moment_of (state_before s at) now) seat call ≡ Err other

-- a payload was not read since the book is down
abbrev pub TellsFault : Standing → ℕ → Option (ObjectRow × Option ℕ) → Option BookFault → Type 0
TellsFault s at row None = Unit {0}
TellsFault s at None (Some (fault.Down len)) = TellsDown s at len
TellsFault s at None (Some (fault.DiskFault len)) = ⊥
TellsFault s at (Some row) (Some (fault.Down len)) = TellsDown s at len
TellsFault s at (Some row) (Some (fault.DiskFault len)) = TellsDown s at len

-- how many bytes a question reads
abbrev pub size_read : Option (ObjectRow × Option ℕ) → Option BookFault → ℕ
size_read None why = 0
size_read (Some row) None = min row.0.size LIMIT
size_read (Some row) (Some why) = 0

-- the payload is the one that stood at the position of the row, where it was read, and else there is none
abbrev pub TellsBytes : Standing → Option (ObjectRow × Option ℕ) → Option BookFault → List ℕ → Type 0
TellsBytes x None why payload = payload ≡ []
TellsBytes x (Some row) (Some why) payload = payload ≡ []
TellsBytes x (Some row) None payload = (length payload ≡ row.0.size) × (IsPlain x.key → payload ≡ payload_at (payloads_of x) row.0.at)

-- it was read in one turn of those that are remembered, in which the book had this length
pub record TellsPayload (turns : List (Moment Standing)) (asked : Asked) (payload : List ℕ) : Type 0 where
  pub found : Standing
  pub was_found : Sees turns found
  pub length_is : length found.history ≡ asked.at
  pub bytes : TellsBytes found asked.found asked.fault payload

-- the row is the one at its length, and so is the payload
pub record TellsAsked (turns : List (Moment Standing)) (s : Standing) (id : ℕ) (asked : Asked) (payload : List ℕ) : Type 0 where
  pub found_is : asked.found ≡ found (state_before s asked.at) id
  pub reads : TellsFault s asked.at asked.found asked.fault
  pub payload_is : TellsPayload turns asked payload

-- the length of the history at a reply, and the least one at the next
abbrev pub at_of : LaneReply → ℕ
at_of (Submitted a) = a.at
at_of (Got asked payload) = asked.at

abbrev pub next_of_reply : ℕ → Result Receipt Refusal → ℕ
next_of_reply at (Ok receipt) = at + 1
next_of_reply at (Err why) = at

abbrev pub next_at : LaneReply → ℕ
next_at (Submitted a) = next_of_reply a.at a.reply
next_at (Got asked payload) = asked.at

-- the reply is one to this command, and is that of the book at its length
abbrev pub TellsWhat : List (Moment Standing) → Standing → ℕ → ℕ → LaneCommand → LaneReply → Type 0
TellsWhat turns s now seat (Submit call) (Submitted a) = TellsAnswer turns s now seat call a.at a.reply
TellsWhat turns s now seat (Submit call) (Got asked payload) = ⊥
TellsWhat turns s now seat (Get id) (Submitted a) = ⊥
TellsWhat turns s now seat (Get id) (Got asked payload) = TellsAsked turns s id asked payload

-- a disk fault is told; it was met in this very command
abbrev pub is_fault : Result Receipt Refusal → Type 0
is_fault (Ok receipt) = ⊥
is_fault (Err (refusal.Down len)) = Unit {0}
is_fault (Err (refusal.DiskFault len)) = Unit {0}
is_fault (Err other) = ⊥

abbrev pub is_fresh : Result Receipt Refusal → Type 0
is_fresh (Ok receipt) = ⊥
is_fresh (Err (refusal.DiskFault len)) = Unit {0}
is_fresh (Err other) = ⊥

abbrev pub is_fresh_read : Option BookFault → Type 0
is_fresh_read None = ⊥
is_fresh_read (Some (fault.Down len)) = ⊥
is_fresh_read (Some (fault.DiskFault len)) = Unit {0}

abbrev pub IsFault : LaneReply → Type 0
IsFault (Submitted a) = is_fault a.reply
IsFault (Got asked payload) = (why : BookFault) × (asked.fault ≡ Some why)

abbrev pub IsFresh : LaneReply → Type 0
IsFresh (Submitted a) = is_fresh a.reply
IsFresh (Got asked payload) = is_fresh_read asked.fault

-- The reply is one to this command, and was given in one turn of those that are remembered, in which the book had this length, and
-- was up where no fault is told
pub record Tells (turns : List (Moment Standing)) (s : Standing) (now seat : ℕ) (command : LaneCommand) (told : LaneReply) : Type 0 where
  pub what : TellsWhat turns s now seat command told
  pub below : next_at told ≤ length s.history
  pub from : at_of told ≤ next_at told
  pub found : Standing
  pub was_found : Sees turns found
  pub length_is : length found.history ≡ at_of told
  pub up : (IsFault told → ⊥) → found.down ≡ false

-- the entries of the accepted calls, in their order
abbrev pub own_of : Standing → LaneReply → List Entry
own_of s (Submitted a) = added_by s a
own_of s (Got asked payload) = []

abbrev pub accepted : Standing → List LaneReply → List Entry
accepted s [] = []
accepted s (r ∷ rs) = own_of s r ++ accepted s rs

-- the call was not made for want of memory
abbrev pub is_starved : Result Receipt Refusal → Type 0
is_starved (Ok receipt) = ⊥
is_starved (Err refusal.OutOfMemory) = Unit {0}
is_starved (Err other) = ⊥

abbrev pub IsStarved : LaneReply → Type 0
IsStarved (Submitted a) = is_starved a.reply
IsStarved (Got asked payload) = ⊥

-- none of these replies is starved
abbrev pub AreFed : List LaneReply → Type 0
AreFed replies = (k : ℕ) (r : LaneReply) → slice_get replies k ≡ Some r → IsStarved r → ⊥

-- The replies of a lane whose seat made these entries, in turns of those that are remembered: one to each command so far, the
-- entries of the accepted calls are those that the seat made, in their order, the length never falls and is above that of an
-- accepted call before, only the first of the disk faults was met in its own command, and behind want of memory there is none.
pub record LaneTold (turns : List (Moment Standing)) (s : Standing) (now seat : ℕ) (made : List Entry) (commands : List LaneCommand) (replies : List LaneReply) : Type 0 where
  pub told : (k : ℕ) (r : LaneReply) → slice_get replies k ≡ Some r → (c : LaneCommand) × (slice_get commands k ≡ Some c) × Tells turns s now seat c r
  pub rising : (i j : ℕ) (a b : LaneReply) → i < j → slice_get replies i ≡ Some a → slice_get replies j ≡ Some b → next_at a ≤ at_of b
  pub fresh : (i j : ℕ) (a b : LaneReply) → i < j → slice_get replies i ≡ Some a → slice_get replies j ≡ Some b → IsFault a → IsFresh b → ⊥
  pub fed : (i j : ℕ) (a b : LaneReply) → i < j → slice_get replies i ≡ Some a → slice_get replies j ≡ Some b → IsStarved a → ⊥
  pub made_is : made ≡ accepted s replies

-- it made all its commands, or ended at want of memory
abbrev pub Ended : List LaneCommand → List LaneReply → Type 0
Ended commands replies =
    (length replies ≡ length commands) ⊎ ((n : ℕ) × (r : LaneReply) × (length replies ≡ n + 1) × (slice_get replies n ≡ Some r) × IsStarved r)

-- a command was made in one turn of a seat, and this is the reply
pub record Makes (v w : View Standing Entry) (now : ℕ) (command : LaneCommand) (r : LaneReply) : Type 0 where
  pub later : Follows w.seen.state v.seen.state
  pub keeps : Keeps v w
  pub tells : Tells w.remembers w.seen.state now v.number command r
  pub above : length v.seen.state.history ≤ at_of r
  pub fresh : IsFresh r → v.seen.state.down ≡ false
  pub made_is : w.made ≡ v.made ++ own_of w.seen.state r
  pub leaves : LeavesAll v.seen.state w.seen.state

-- a question was asked, and not told: nobody made an entry
pub record Stops (v w : View Standing Entry) : Type 0 where
  pub later : Follows w.seen.state v.seen.state
  pub keeps : Keeps v w
  pub made_is : w.made ≡ v.made
  pub leaves : LeavesAll v.seen.state w.seen.state

-- type and edge numbers of the command's call are below the counts of the rules
abbrev pub HasCommand : RuleSet → LaneCommand → Type 0
HasCommand rules (Submit call) = HasNumbers rules call
HasCommand rules (Get id) = Unit {0}
