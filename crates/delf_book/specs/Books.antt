-- A book: a ledger over its disk. What its calls answer, and what they leave.
use Rattle.std.specs.Prelude.{◌≡◌, ℕ, ◌≤◌, ◌<◌, Bool, true, false, List, [], ◌∷◌, ◌++◌, Option, Some, None, Result, Ok, Err, length}
use Rattle.delf_disk.specs.Areas.{Areas}
use Rattle.delf_disk.specs.Causes.{Rose}
use Rattle.delf_disk.specs.Images.{Same}
use Rattle.delf_disk.specs.Moments.{Runs, Leaves}
use Rattle.delf_model.specs.declared.call.Call.{Call}
use Rattle.delf_model.specs.declared.call.Call.TheVariants as call
use Rattle.delf_model.specs.declared.call.Refusal.{Refusal}
use Rattle.delf_model.specs.declared.call.Refusal.TheVariants as refusal
use Rattle.delf_model.specs.declared.entry.Entry.{Entry}
use Rattle.delf_model.specs.declared.entry.What.{What}
use Rattle.delf_model.specs.declared.entry.What.TheVariants.{Create, Update, Link, Unlink, Delete, Restore, Expire, Cut, Erase, Put, Purge}
use Rattle.delf_model.specs.RuleSet.{RuleSet}
use Rattle.delf_model.specs.State.{State}
use Rattle.delf_model.specs.Step.{after}
use Rattle.delf_model.specs.Owners.{start_of, key_of}
use Rattle.delf_model.specs.Graph.{edge_stands}
use Rattle.delf_model.specs.Reply.{reply}
use Rattle.delf_model.specs.Report.{items_of}
use Rattle.delf_model.specs.Payloads.{Payloads, payloads_after}
use Rattle.store_laws.specs.Stores.{digest}
use Rattle.store_laws.specs.Moves.{RestIn, StandsFor}
use Rattle.delete_step.specs.Claims.{ClaimView}
use Rattle.delf_book.specs.Parts.{Interrupted}
use Rattle.delf_book.specs.Writing.{Rests}
use Rattle.delf_book.specs.declared.faults.EntryFault.{EntryFault}
use Rattle.delf_book.specs.declared.faults.EntryFault.TheVariants.{OutOfMemory, Failed}
use Rattle.delf_book.specs.declared.answers.Receipt.{Receipt}
use Rattle.delf_book.specs.declared.answers.BookFault.{BookFault}
use Rattle.delf_book.specs.declared.answers.BookFault.TheVariants as fault

-- rules and history with its payloads, the stored graph, the held claims by age, how many further deletion steps need no memory,
-- whether a disk fault was answered and what may then stand beside the history, the disk, and the disk as it was at the opening
pub record Booked (G R : Type 0) : Type 0 where
  pub rules : RuleSet
  pub history : List Entry
  pub payloads : Payloads
  pub store : G
  pub held : List ClaimView
  pub spare : ℕ
  pub down : Bool
  pub beside : Option Interrupted
  pub rig : R
  pub opened : R

-- the state after the history
abbrev pub state_in : {G R : Type 0} → Booked G R → State
state_in book = after book.rules book.history

-- type and edge numbers of a call are below the counts of the rules
abbrev pub HasNumbers : RuleSet → Call → Type 0
HasNumbers rules (call.Create kind id payload) = kind < length rules.objects
HasNumbers rules (call.Update id payload) = Unit {0}
HasNumbers rules (call.Link edge from to payload) = edge < length rules.edges
HasNumbers rules (call.Unlink edge from to name) = edge < length rules.edges
HasNumbers rules (call.Delete id name) = Unit {0}
HasNumbers rules (call.Restore name) = Unit {0}

-- the bytes that a call brings
abbrev pub given_by : Call → List ℕ
given_by (call.Create kind id payload) = payload
given_by (call.Update id payload) = payload
given_by (call.Link edge from to payload) = payload
given_by (call.Unlink edge from to name) = []
given_by (call.Delete id name) = []
given_by (call.Restore name) = []

-- the job that an entry starts
abbrev pub job_if : {A : Type 0} → ℕ → Option A → Option ℕ
job_if position None = None
job_if position (Some root) = Some position

abbrev pub started_by : State → What → Option ℕ
started_by s what = job_if s.len (start_of s what)

-- the items of the job that an entry restores
abbrev pub restored_items : State → What → ℕ
restored_items s (Create tag kind id size) = 0
restored_items s (Update tag id size) = 0
restored_items s (Link tag edge from to size) = 0
restored_items s (Unlink tag edge from to name) = 0
restored_items s (Delete tag id name) = 0
restored_items s (Restore tag job) = items_of s job
restored_items s (Expire id) = 0
restored_items s (Cut job edge from to) = 0
restored_items s (Erase job id) = 0
restored_items s (Put job i) = 0
restored_items s (Purge job) = 0

-- a step for which `reserve` makes room: any but a put
abbrev pub is_reserved : What → Bool
is_reserved (Create tag kind id size) = false
is_reserved (Update tag id size) = false
is_reserved (Link tag edge from to size) = false
is_reserved (Unlink tag edge from to name) = false
is_reserved (Delete tag id name) = false
is_reserved (Restore tag job) = false
is_reserved (Expire id) = true
is_reserved (Cut job edge from to) = true
is_reserved (Erase job id) = true
is_reserved (Put job i) = false
is_reserved (Purge job) = true

-- what a call or step did to the book

-- the history has this entry more
pub record Grew {G R : Type 0} (old now : Booked G R) (entry : Entry) : Type 0 where
  pub rules : now.rules ≡ old.rules
  pub history : now.history ≡ old.history ++ entry ∷ []
  pub up : now.down ≡ false
  pub beside : now.beside ≡ old.beside
  pub held : now.held ≡ old.held
  pub opened : now.opened ≡ old.opened

-- the payloads are those after an entry that was given these bytes
abbrev pub PayloadsGrew : {G R : Type 0} → Booked G R → Booked G R → Entry → List ℕ → Type 0
PayloadsGrew old now entry given = now.payloads ≡ payloads_after digest (state_in old) entry given old.payloads

-- the disk is as it was, and so is all but the room
pub record Stayed {G R : Type 0} (old now : Booked G R) : Type 0 where
  pub rules : now.rules ≡ old.rules
  pub history : now.history ≡ old.history
  pub payloads : now.payloads ≡ old.payloads
  pub down : now.down ≡ old.down
  pub beside : now.beside ≡ old.beside
  pub held : now.held ≡ old.held
  pub spare : old.spare ≤ now.spare
  pub rig : now.rig ≡ old.rig
  pub opened : now.opened ≡ old.opened

-- a disk fault: history and payloads stay, the book is down, this may stand beside it, and no room is lost
pub record Fell {G R : Type 0} (old now : Booked G R) (beside : Option Interrupted) : Type 0 where
  pub rules : now.rules ≡ old.rules
  pub history : now.history ≡ old.history
  pub payloads : now.payloads ≡ old.payloads
  pub down : now.down ≡ true
  pub is_beside : now.beside ≡ beside
  pub held : now.held ≡ old.held
  pub spare : old.spare ≤ now.spare
  pub opened : now.opened ≡ old.opened

-- a call was accepted: the entry is what the call asks for
pub record Accepted {G R : Type 0} (old now : Booked G R) (moment seat : ℕ) (asked : Call) (receipt : Receipt) : Type 0 where
  pub up : old.down ≡ false
  pub what : What
  pub is_reply : reply (state_in old) moment seat asked ≡ Ok what
  pub grew : Grew old now (record { moment = moment; what = what })
  pub spare : old.spare ≤ now.spare
  pub position : receipt.position ≡ length old.history
  pub started : receipt.started ≡ started_by (state_in old) what
  pub items : receipt.items ≡ restored_items (state_in old) what

-- a call met a disk fault
pub record Interrupts {G R : Type 0} (old now : Booked G R) (moment seat : ℕ) (asked : Call) (len : ℕ) : Type 0 where
  pub up : old.down ≡ false
  pub what : What
  pub is_reply : reply (state_in old) moment seat asked ≡ Ok what
  pub fell : Fell old now (Some (record { entry = record { moment = moment; what = what }; payload = given_by asked }))
  pub length_is : len ≡ length old.history

-- a down book answers that it is down, and nothing else
abbrev pub WasDown : {G R : Type 0} → Booked G R → Booked G R → ℕ → Type 0
WasDown old now len = (old.down ≡ true) × (len ≡ length old.history) × (now ≡ old)

abbrev pub Answers : {G R : Type 0} → Booked G R → Booked G R → ℕ → ℕ → Call → Result Receipt Refusal → Type 0
Answers old now moment seat asked (Ok receipt) = Accepted old now moment seat asked receipt
Answers old now moment seat asked (Err (refusal.Down len)) = WasDown old now len
Answers old now moment seat asked (Err refusal.OutOfMemory) = (old.down ≡ false) × Stayed old now
Answers old now moment seat asked (Err (refusal.DiskFault len)) = Interrupts old now moment seat asked len
Answers old now moment seat asked (Err refusal) =
    (old.down ≡ false) × (reply (state_in old) moment seat asked ≡ Err refusal) × (now ≡ old)

-- memory is wanting for a call that would be accepted, and for no other
abbrev pub CallWants : {G R : Type 0} → Booked G R → ℕ → ℕ → Call → Result Receipt Refusal → Type 0
CallWants old moment seat asked (Err refusal.OutOfMemory) = (what : What) × (reply (state_in old) moment seat asked ≡ Ok what)
CallWants old moment seat asked (Ok receipt) = Unit {0}
CallWants old moment seat asked (Err refusal) = Unit {0}

-- an accepted call adds the payload that it brings, and any other leaves them, as `Answers` says
abbrev pub CallPayloads : {G R : Type 0} → Booked G R → Booked G R → ℕ → ℕ → Call → Result Receipt Refusal → Type 0
CallPayloads old now moment seat asked (Ok receipt) =
    (what : What) → reply (state_in old) moment seat asked ≡ Ok what → PayloadsGrew old now (record { moment = moment; what = what }) (given_by asked)
CallPayloads old now moment seat asked (Err refusal) = Unit {0}

-- the count of faults stays, but where a disk fault is answered, where it rises

abbrev pub CountsRefusal : {T : Type 0} → ℕ → ℕ → Result T Refusal → Type 0
CountsRefusal before now (Err (refusal.DiskFault len)) = (before ≤ now) × Rose before now
CountsRefusal before now (Ok x) = now ≡ before
CountsRefusal before now (Err refusal) = now ≡ before

-- what a crash may leave of the parts of a book: whatever payloads stood, each image since the start is that of the history,
-- or of it with the entry

abbrev pub IsCrashSafe : {R : Type 0} → (R → ℕ) → (R → Areas → Type 0) → (R → ℕ → Areas → Type 0) → RuleSet → List Entry → Entry → List ℕ → R → R → Type 0
IsCrashSafe moment may_leave left_since rules history entry given old now =
    (e : Payloads) → RestIn rules history e (may_leave old) →
    Leaves moment may_leave left_since (StandsFor rules history e entry given) old now

-- once it is accepted, each image is that of the history with the entry
abbrev pub IsDurable : {R : Type 0} → (R → Areas → Type 0) → RuleSet → List Entry → Entry → List ℕ → R → R → Type 0
IsDurable may_leave rules history entry given old now =
    (e : Payloads) → RestIn rules history e (may_leave old) →
    RestIn rules (history ++ entry ∷ []) (payloads_after digest (after rules history) entry given e) (may_leave now)

-- the same of the payloads that a book has

abbrev pub LeavesEntry : {G R : Type 0} → (R → ℕ) → (R → Areas → Type 0) → (R → ℕ → Areas → Type 0) → Booked G R → Entry → List ℕ → R → Type 0
LeavesEntry moment may_leave left_since old entry given now =
    Leaves moment may_leave left_since (StandsFor old.rules old.history old.payloads entry given) old.rig now

abbrev pub RestsLonger : {G R : Type 0} → (R → Areas → Type 0) → Booked G R → Entry → List ℕ → R → Type 0
RestsLonger may_leave old entry given now =
    RestIn old.rules (old.history ++ entry ∷ []) (payloads_after digest (state_in old) entry given old.payloads) (may_leave now)

-- no entry was made: each image since the start holds the history and its payloads
abbrev pub LeavesAlone : {G R : Type 0} → (R → ℕ) → (R → Areas → Type 0) → (R → ℕ → Areas → Type 0) → Booked G R → R → Type 0
LeavesAlone moment may_leave left_since old now = Leaves moment may_leave left_since (Rests old.rules old.history old.payloads) old.rig now

-- nothing was written: each image since the start is one of before
abbrev pub OnlyReads : {R : Type 0} → (R → ℕ) → (R → Areas → Type 0) → (R → ℕ → Areas → Type 0) → R → R → Type 0
OnlyReads moment may_leave left_since old now = Runs moment may_leave left_since Same old now

-- unless a disk call failed
abbrev pub UnlessFailed : {T : Type 0} → Result T EntryFault → Type 0 → Type 0
UnlessFailed (Ok x) P = P
UnlessFailed (Err OutOfMemory) P = P
UnlessFailed (Err Failed) P = Unit {0}

abbrev pub CountsEntry : {T : Type 0} → ℕ → ℕ → Result T EntryFault → Type 0
CountsEntry before now (Ok x) = now ≡ before
CountsEntry before now (Err OutOfMemory) = now ≡ before
CountsEntry before now (Err Failed) = (before ≤ now) × Rose before now

-- the crash clause of a call by its answer: a call that is not accepted makes no disk call, unless it met a disk fault
abbrev pub CallIsSafe : {G R : Type 0} → (R → ℕ) → (R → Areas → Type 0) → (R → ℕ → Areas → Type 0) → Booked G R → Booked G R → ℕ → ℕ → Call → Result Receipt Refusal → Type 0
CallIsSafe at may_leave left_since old now moment seat asked (Ok receipt) =
    (what : What) → reply (state_in old) moment seat asked ≡ Ok what →
    LeavesEntry at may_leave left_since old (record { moment = moment; what = what }) (given_by asked) now.rig ×
    RestsLonger may_leave old (record { moment = moment; what = what }) (given_by asked) now.rig
CallIsSafe at may_leave left_since old now moment seat asked (Err (refusal.DiskFault len)) =
    (what : What) → reply (state_in old) moment seat asked ≡ Ok what →
    LeavesEntry at may_leave left_since old (record { moment = moment; what = what }) (given_by asked) now.rig
CallIsSafe at may_leave left_since old now moment seat asked (Err refusal) = now.rig ≡ old.rig

-- the edge that an unlink takes stands
abbrev pub EdgeStands : State → What → Type 0
EdgeStands s (Create tag kind id size) = Unit {0}
EdgeStands s (Update tag id size) = Unit {0}
EdgeStands s (Link tag edge from to size) = Unit {0}
EdgeStands s (Unlink tag edge from to name) = edge_stands s.graph (key_of edge from to) ≡ true
EdgeStands s (Delete tag id name) = Unit {0}
EdgeStands s (Restore tag job) = Unit {0}
EdgeStands s (Expire id) = Unit {0}
EdgeStands s (Cut job edge from to) = Unit {0}
EdgeStands s (Erase job id) = Unit {0}
EdgeStands s (Put job i) = Unit {0}
EdgeStands s (Purge job) = Unit {0}

-- the rig alone moved
abbrev pub OnlyRig : {G R : Type 0} → Booked G R → Booked G R → Type 0
OnlyRig old now = now ≡ record old { rig = now.rig }

-- the answers of a call that adds no entry
abbrev pub ReadAnswers : {G R T : Type 0} → Booked G R → Booked G R → Result T BookFault → Type 0
ReadAnswers old now (Ok x) = (old.down ≡ false) × OnlyRig old now
ReadAnswers old now (Err (fault.Down len)) = WasDown old now len
ReadAnswers old now (Err (fault.DiskFault len)) = (old.down ≡ false) × Fell old now old.beside × (len ≡ length old.history)

abbrev pub CountsFault : {T : Type 0} → ℕ → ℕ → Result T BookFault → Type 0
CountsFault before now (Ok x) = now ≡ before
CountsFault before now (Err (fault.Down len)) = now ≡ before
CountsFault before now (Err (fault.DiskFault len)) = (before ≤ now) × Rose before now
