-- What a serial step answers, and what it leaves.
use Rattle.std.specs.Prelude.{◌≡◌, ◌≢◌, ℕ, ◌+◌, ◌<◌, ◌≤◌, true, false, List, [], Some, None, Result, Ok, Err, length, slice_get}
use Rattle.delf_disk.specs.Areas.{Areas}
use Rattle.delf_disk.specs.Causes.{Rose}
use Rattle.delf_model.specs.declared.entry.Entry.{Entry}
use Rattle.delf_model.specs.declared.entry.What.{What}
use Rattle.delf_model.specs.declared.entry.What.TheVariants.{Put, Purge}
use Rattle.delf_model.specs.State.{State, Logged, position_of}
use Rattle.delf_model.specs.Puts.{judged}
use Rattle.delf_model.specs.Order.{first_step}
use Rattle.delf_model.specs.Payloads.{Payloads, payload_at}
use Rattle.store_laws.specs.Stores.{digest}
use Rattle.delf_book.specs.Books.{Booked, state_in, is_reserved, Grew, PayloadsGrew, Stayed, Fell, WasDown, LeavesEntry, RestsLonger, OnlyReads}
use Rattle.delf_book.specs.declared.answers.Worked.{Worked}
use Rattle.delf_book.specs.declared.answers.Worked.TheVariants as worked
use Rattle.delf_book.specs.declared.answers.StepFault.{StepFault}
use Rattle.delf_book.specs.declared.answers.StepFault.TheVariants as fault

-- the entry of a step
abbrev pub step_entry : ℕ → What → Entry
step_entry moment what = record { moment = moment; what = what }

-- a step was made: it is the first of the serial order
pub record Steps {G R : Type 0} (old now : Booked G R) (moment position : ℕ) : Type 0 where
  pub up : old.down ≡ false
  pub what : What
  pub is_first : first_step (state_in old) moment ≡ Some what
  pub grew : Grew old now (step_entry moment what)
  -- room is taken by one at most, and by a put not at all
  pub spare : old.spare ≤ now.spare + 1
  pub kept : is_reserved what ≡ false → old.spare ≤ now.spare
  pub position_is : position ≡ length old.history

-- there is no step
pub record Idles {G R : Type 0} (old now : Booked G R) (moment len : ℕ) : Type 0 where
  pub up : old.down ≡ false
  pub none : first_step (state_in old) moment ≡ None
  pub same : now ≡ old
  pub length_is : len ≡ length old.history

-- memory was wanting: while room is kept, for a put alone
pub record LacksMemory {G R : Type 0} (old now : Booked G R) (moment : ℕ) : Type 0 where
  pub up : old.down ≡ false
  pub stayed : Stayed old now
  pub what : What
  pub is_first : first_step (state_in old) moment ≡ Some what
  pub unreserved : 0 < old.spare → is_reserved what ≡ false

-- a step met a disk fault
pub record InterruptsStep {G R : Type 0} (old now : Booked G R) (moment len : ℕ) : Type 0 where
  pub up : old.down ≡ false
  pub what : What
  pub is_first : first_step (state_in old) moment ≡ Some what
  pub fell : Fell old now (Some (record { entry = step_entry moment what; payload = [] }))
  pub length_is : len ≡ length old.history

-- the step would put back this item
pub record PutsItem (s : State) (what : What) (i : ℕ) (logged : Logged) : Type 0 where
  pub job : ℕ
  pub is_put : what ≡ Put job i
  pub there : slice_get s.items i ≡ Some logged
  pub back : judged s logged.item ≡ None

-- the item that the step would put back has another digest than the one that was logged: the step is not made
pub record MeetsDamage {G R : Type 0} (old now : Booked G R) (moment item : ℕ) (stored found : List ℕ) : Type 0 where
  pub up : old.down ≡ false
  pub what : What
  pub is_first : first_step (state_in old) moment ≡ Some what
  pub logged : Logged
  pub puts : PutsItem (state_in old) what item logged
  pub differ : stored ≢ found
  -- but for room, the book is as it was
  pub rest : now ≡ record old { store = now.store; spare = now.spare; rig = now.rig }
  pub spare : old.spare ≤ now.spare

abbrev pub StepAnswers : {G R : Type 0} → Booked G R → Booked G R → ℕ → Result Worked StepFault → Type 0
StepAnswers old now moment (Ok (worked.Stepped position)) = Steps old now moment position
StepAnswers old now moment (Ok (worked.Idle len)) = Idles old now moment len
StepAnswers old now moment (Err (fault.Down len)) = WasDown old now len
StepAnswers old now moment (Err fault.OutOfMemory) = LacksMemory old now moment
StepAnswers old now moment (Err (fault.DiskFault len)) = InterruptsStep old now moment len
StepAnswers old now moment (Err (fault.Damaged item stored found)) = MeetsDamage old now moment item stored found

-- a step for which room is kept takes that of one
abbrev pub TakesRoom : {G R : Type 0} → Booked G R → Booked G R → What → Type 0
TakesRoom old now what = is_reserved what ≡ true → 0 < old.spare → now.spare + 1 ≡ old.spare

abbrev pub StepTakesRoom : {G R : Type 0} → Booked G R → Booked G R → ℕ → Result Worked StepFault → Type 0
StepTakesRoom old now moment (Ok (worked.Stepped position)) = (what : What) → first_step (state_in old) moment ≡ Some what → TakesRoom old now what
StepTakesRoom old now moment (Ok (worked.Idle len)) = Unit {0}
StepTakesRoom old now moment (Err fault) = Unit {0}

-- what is put back is what was sealed
abbrev pub PutsSealed : State → What → Payloads → Type 0
PutsSealed s what e = (i : ℕ) (logged : Logged) → PutsItem s what i logged →
    slice_get e.seals i ≡ Some (digest (payload_at e (position_of logged.item)))

-- the two digests are that of the log and that of the payload that stood
pub record TellsDamage (s : State) (e : Payloads) (item : ℕ) (stored found : List ℕ) : Type 0 where
  pub sealed : slice_get e.seals item ≡ Some stored
  pub reads : (logged : Logged) → slice_get s.items item ≡ Some logged → found ≡ digest (payload_at e (position_of logged.item))

-- a step that is made brings no payload, and puts back what was sealed; a damaged item is told by the two digests; and any
-- other answer leaves the payloads, as `StepAnswers` says
abbrev pub StepPayloads : {G R : Type 0} → Booked G R → Booked G R → ℕ → Result Worked StepFault → Type 0
StepPayloads old now moment (Ok (worked.Stepped position)) =
    (what : What) → first_step (state_in old) moment ≡ Some what → PayloadsGrew old now (step_entry moment what) [] × PutsSealed (state_in old) what old.payloads
StepPayloads old now moment (Ok (worked.Idle len)) = Unit {0}
StepPayloads old now moment (Err (fault.Down len)) = Unit {0}
StepPayloads old now moment (Err fault.OutOfMemory) = Unit {0}
StepPayloads old now moment (Err (fault.DiskFault len)) = Unit {0}
StepPayloads old now moment (Err (fault.Damaged item stored found)) = TellsDamage (state_in old) old.payloads item stored found

-- The crash clause of a step by its answer. A step that is not made makes no disk call, unless it met a disk fault, or
-- read the payload that it would put back.
abbrev pub StepIsSafe : {G R : Type 0} → (R → ℕ) → (R → Areas → Type 0) → (R → ℕ → Areas → Type 0) → Booked G R → Booked G R → ℕ → Result Worked StepFault → Type 0
StepIsSafe at may_leave left_since old now moment (Ok (worked.Stepped position)) =
    (what : What) → first_step (state_in old) moment ≡ Some what →
    LeavesEntry at may_leave left_since old (step_entry moment what) [] now.rig × RestsLonger may_leave old (step_entry moment what) [] now.rig
StepIsSafe at may_leave left_since old now moment (Ok (worked.Idle len)) = now.rig ≡ old.rig
StepIsSafe at may_leave left_since old now moment (Err (fault.Down len)) = now.rig ≡ old.rig
StepIsSafe at may_leave left_since old now moment (Err fault.OutOfMemory) = now.rig ≡ old.rig
StepIsSafe at may_leave left_since old now moment (Err (fault.DiskFault len)) =
    (what : What) → first_step (state_in old) moment ≡ Some what → LeavesEntry at may_leave left_since old (step_entry moment what) [] now.rig
StepIsSafe at may_leave left_since old now moment (Err (fault.Damaged item stored found)) = OnlyReads at may_leave left_since old.rig now.rig

-- the count of faults stays, but where a disk fault is answered, where it rises
abbrev pub CountsStep : {T : Type 0} → ℕ → ℕ → Result T StepFault → Type 0
CountsStep before now (Ok x) = now ≡ before
CountsStep before now (Err (fault.Down len)) = now ≡ before
CountsStep before now (Err fault.OutOfMemory) = now ≡ before
CountsStep before now (Err (fault.DiskFault len)) = (before ≤ now) × Rose before now
CountsStep before now (Err (fault.Damaged item stored found)) = now ≡ before

abbrev pub IsPurge : What → Type 0
IsPurge what = (job : ℕ) × (what ≡ Purge job)
