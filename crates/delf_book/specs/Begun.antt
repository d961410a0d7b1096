-- What `begin` and `finish` answer, and what they leave.
use Rattle.std.specs.Prelude.{◌≡◌, ◌≢◌, ℕ, ◌+◌, ◌<◌, ◌≤◌, true, false, List, [], ◌∷◌, ◌++◌, Some, None, Option, Result, Ok, Err, length, cond}
use Rattle.delf_disk.specs.Areas.{Areas}
use Rattle.delf_model.specs.declared.entry.What.{What}
use Rattle.delf_model.specs.State.{Logged}
use Rattle.delf_model.specs.Order.{first_step}
use Rattle.store_laws.specs.Stores.{AreSealed}
use Rattle.held_laws.specs.Held.{takes_row}
use Rattle.job_table.specs.Next.{NoneLegal, AllHeld, IsFree}
use Rattle.delete_step.specs.Claims.{ClaimView}
use Rattle.delf_book.specs.Parts.{Interrupted}
use Rattle.delf_book.specs.Books.{Booked, state_in, is_reserved, Grew, PayloadsGrew, Stayed, Fell, WasDown, LeavesEntry, RestsLonger, OnlyReads}
use Rattle.delf_book.specs.Claims.{step_of, steps_of, released, IsLogged, IsRead}
use Rattle.delf_book.specs.Steps.{step_entry, TakesRoom, PutsItem, PutsSealed, TellsDamage}
use Rattle.delf_book.specs.Seals.{StaysSealed}
use Rattle.delf_book.specs.declared.answers.Begun.{Begun}
use Rattle.delf_book.specs.declared.answers.Begun.TheVariants as begun
use Rattle.delf_book.specs.declared.answers.StepFault.{StepFault}
use Rattle.delf_book.specs.declared.answers.StepFault.TheVariants as fault
use Rattle.delf_book.specs.declared.answers.BookFault.{BookFault}
use Rattle.delf_book.specs.declared.answers.BookFault.TheVariants as book_fault

-- a step that `begin` may take: it is legal and no claim holds it, and where none is held it is the first of the serial order
pub record MayBegin {G R : Type 0} (book : Booked G R) (moment : ℕ) (what : What) : Type 0 where
  pub free : IsFree (state_in book) moment (steps_of book.held) what
  pub first : book.held ≡ [] → first_step (state_in book) moment ≡ Some what

-- a step was made at once
pub record BeginsStep {G R : Type 0} (old now : Booked G R) (moment position : ℕ) : Type 0 where
  pub up : old.down ≡ false
  pub what : What
  pub may : MayBegin old moment what
  pub at_once : takes_row what ≡ false
  pub grew : Grew old now (step_entry moment what)
  -- room is taken by one at most, and by a put not at all
  pub spare : old.spare ≤ now.spare + 1
  pub kept : is_reserved what ≡ false → old.spare ≤ now.spare
  pub position_is : position ≡ length old.history

-- a row is claimed: all else stays, and the claim has the item that its step would log
pub record BeginsClaim {G R : Type 0} (old now : Booked G R) (moment : ℕ) (claim : ClaimView) : Type 0 where
  pub up : old.down ≡ false
  pub may : MayBegin old moment (step_of claim)
  pub logs : IsLogged (state_in old) claim
  pub same : now ≡ record old { held = old.held ++ claim ∷ []; store = now.store; spare = now.spare; rig = now.rig }
  pub spare : old.spare ≤ now.spare + 1

-- no step is legal
pub record BeginsNone {G R : Type 0} (old now : Booked G R) (moment len : ℕ) : Type 0 where
  pub up : old.down ≡ false
  pub none : NoneLegal (state_in old) moment
  pub same : now ≡ old
  pub length_is : len ≡ length old.history

-- some step is legal, and a claim holds each
pub record BeginsHeld {G R : Type 0} (old now : Booked G R) (moment n len : ℕ) : Type 0 where
  pub up : old.down ≡ false
  pub many : n ≡ length old.held
  pub some : 0 < n
  pub all : AllHeld (state_in old) moment (steps_of old.held)
  pub same : now ≡ old
  pub length_is : len ≡ length old.history

-- memory was wanting: while room is kept, for a put alone
pub record BeginLacks {G R : Type 0} (old now : Booked G R) (moment : ℕ) : Type 0 where
  pub up : old.down ≡ false
  pub stayed : Stayed old now
  pub what : What
  pub may : MayBegin old moment what
  pub unreserved : 0 < old.spare → is_reserved what ≡ false

-- what stands beside the history after a fault: a step that was to be made, and nothing where a row was read
abbrev pub beside_of : ℕ → What → Option Interrupted
beside_of moment what = cond (takes_row what) None (Some (record { entry = step_entry moment what; payload = [] }))

pub record InterruptsBegin {G R : Type 0} (old now : Booked G R) (moment len : ℕ) : Type 0 where
  pub up : old.down ≡ false
  pub what : What
  pub may : MayBegin old moment what
  pub fell : Fell old now (beside_of moment what)
  pub length_is : len ≡ length old.history

-- the item that a put would bring back is damaged: the put is not made
pub record BeginMeets {G R : Type 0} (old now : Booked G R) (moment item : ℕ) (stored found : List ℕ) : Type 0 where
  pub up : old.down ≡ false
  pub what : What
  pub may : MayBegin old moment what
  pub logged : Logged
  pub puts : PutsItem (state_in old) what item logged
  pub differ : stored ≢ found
  pub rest : now ≡ record old { store = now.store; spare = now.spare; rig = now.rig }
  pub spare : old.spare ≤ now.spare

abbrev pub BeginAnswers : {G R : Type 0} → Booked G R → Booked G R → ℕ → Result Begun StepFault → Type 0
BeginAnswers old now moment (Ok (begun.Stepped position)) = BeginsStep old now moment position
BeginAnswers old now moment (Ok (begun.Claimed claim)) = BeginsClaim old now moment claim
BeginAnswers old now moment (Ok (begun.Idle len)) = BeginsNone old now moment len
BeginAnswers old now moment (Ok (begun.Held n len)) = BeginsHeld old now moment n len
BeginAnswers old now moment (Err (fault.Down len)) = WasDown old now len
BeginAnswers old now moment (Err fault.OutOfMemory) = BeginLacks old now moment
BeginAnswers old now moment (Err (fault.DiskFault len)) = InterruptsBegin old now moment len
BeginAnswers old now moment (Err (fault.Damaged item stored found)) = BeginMeets old now moment item stored found

-- and so does one that is claimed, where it is claimed
abbrev pub BeginTakesRoom : {G R : Type 0} → Booked G R → Booked G R → ℕ → Result Begun StepFault → Type 0
BeginTakesRoom old now moment (Ok (begun.Stepped position)) = (what : What) → now.history ≡ old.history ++ step_entry moment what ∷ [] → TakesRoom old now what
BeginTakesRoom old now moment (Ok (begun.Claimed claim)) = 0 < old.spare → now.spare + 1 ≡ old.spare
BeginTakesRoom old now moment (Ok (begun.Idle len)) = Unit {0}
BeginTakesRoom old now moment (Ok (begun.Held n len)) = Unit {0}
BeginTakesRoom old now moment (Err fault) = Unit {0}

-- where a row is claimed, the areas read as before, and each image since the start is one of before
abbrev pub ClaimOnlyReads : {R : Type 0} → (R → Areas) → (R → ℕ) → (R → Areas → Type 0) → (R → ℕ → Areas → Type 0) → R → R → Result Begun StepFault → Type 0
ClaimOnlyReads seen at may_leave left_since old now (Ok (begun.Stepped position)) = Unit {0}
ClaimOnlyReads seen at may_leave left_since old now (Ok (begun.Claimed claim)) = (seen now ≡ seen old) × OnlyReads at may_leave left_since old now
ClaimOnlyReads seen at may_leave left_since old now (Ok (begun.Idle len)) = Unit {0}
ClaimOnlyReads seen at may_leave left_since old now (Ok (begun.Held n len)) = Unit {0}
ClaimOnlyReads seen at may_leave left_since old now (Err fault) = Unit {0}

-- what stands of the payloads: a step that is made brings none, and puts back what was sealed; a claim has the payload that
-- stands; and a damaged item is told by the two digests
abbrev pub BeginPayloads : {G R : Type 0} → Booked G R → Booked G R → ℕ → Result Begun StepFault → Type 0
BeginPayloads old now moment (Ok (begun.Stepped position)) =
    (what : What) → now.history ≡ old.history ++ step_entry moment what ∷ [] →
    PayloadsGrew old now (step_entry moment what) [] × PutsSealed (state_in old) what old.payloads
BeginPayloads old now moment (Ok (begun.Claimed claim)) = IsRead old.payloads claim
BeginPayloads old now moment (Ok (begun.Idle len)) = Unit {0}
BeginPayloads old now moment (Ok (begun.Held n len)) = Unit {0}
BeginPayloads old now moment (Err (fault.Down len)) = Unit {0}
BeginPayloads old now moment (Err fault.OutOfMemory) = Unit {0}
BeginPayloads old now moment (Err (fault.DiskFault len)) = Unit {0}
BeginPayloads old now moment (Err (fault.Damaged item stored found)) = TellsDamage (state_in old) old.payloads item stored found

-- The crash clause of `begin` by its answer: a step is as one of `work`, a claim and a damaged item are only read, and
-- nothing else makes a disk call. The entry is told by the history that is left, or by what stands beside it.
abbrev pub BeginIsSafe : {G R : Type 0} → (R → ℕ) → (R → Areas → Type 0) → (R → ℕ → Areas → Type 0) → Booked G R → Booked G R → ℕ → Result Begun StepFault → Type 0
BeginIsSafe at may_leave left_since old now moment (Ok (begun.Stepped position)) =
    (what : What) → now.history ≡ old.history ++ step_entry moment what ∷ [] →
    LeavesEntry at may_leave left_since old (step_entry moment what) [] now.rig ×
    RestsLonger may_leave old (step_entry moment what) [] now.rig
BeginIsSafe at may_leave left_since old now moment (Ok (begun.Claimed claim)) = OnlyReads at may_leave left_since old.rig now.rig
BeginIsSafe at may_leave left_since old now moment (Ok (begun.Idle len)) = now.rig ≡ old.rig
BeginIsSafe at may_leave left_since old now moment (Ok (begun.Held n len)) = now.rig ≡ old.rig
BeginIsSafe at may_leave left_since old now moment (Err (fault.Down len)) = now.rig ≡ old.rig
BeginIsSafe at may_leave left_since old now moment (Err fault.OutOfMemory) = now.rig ≡ old.rig
BeginIsSafe at may_leave left_since old now moment (Err (fault.DiskFault len)) =
    (now.beside ≡ None → OnlyReads at may_leave left_since old.rig now.rig) ×
    ((what : What) → now.beside ≡ Some (record { entry = step_entry moment what; payload = [] }) →
    LeavesEntry at may_leave left_since old (step_entry moment what) [] now.rig)
BeginIsSafe at may_leave left_since old now moment (Err (fault.Damaged item stored found)) = OnlyReads at may_leave left_since old.rig now.rig

-- a store whose payloads are what was sealed stays such a one, also where a disk fault leaves the entry beside the history,
-- and over it no damage is met
abbrev pub BeginKeepsSeals : {G R : Type 0} → Booked G R → Booked G R → ℕ → Result Begun StepFault → Type 0
BeginKeepsSeals old now moment (Ok (begun.Stepped position)) =
    (what : What) → now.history ≡ old.history ++ step_entry moment what ∷ [] → StaysSealed old (step_entry moment what) []
BeginKeepsSeals old now moment (Ok (begun.Claimed claim)) = Unit {0}
BeginKeepsSeals old now moment (Ok (begun.Idle len)) = Unit {0}
BeginKeepsSeals old now moment (Ok (begun.Held n len)) = Unit {0}
BeginKeepsSeals old now moment (Err (fault.Down len)) = Unit {0}
BeginKeepsSeals old now moment (Err fault.OutOfMemory) = Unit {0}
BeginKeepsSeals old now moment (Err (fault.DiskFault len)) =
    (what : What) → now.beside ≡ Some (record { entry = step_entry moment what; payload = [] }) → StaysSealed old (step_entry moment what) []
BeginKeepsSeals old now moment (Err (fault.Damaged item stored found)) = AreSealed old.rules old.history old.payloads → ⊥

-- the claimed row was taken: just its Cut or Erase is made, whose item is that of the claim, and no room is lost
pub record Finishes {G R : Type 0} (old now : Booked G R) (moment position : ℕ) (claim : ClaimView) : Type 0 where
  pub up : old.down ≡ false
  pub logs : IsLogged (state_in old) claim
  pub grew : Grew (released old claim) now (step_entry moment (step_of claim))
  pub spare : now.spare ≡ old.spare
  pub position_is : position ≡ length old.history

-- a disk fault: the claim is gone, and its entry may stand beside the history
pub record InterruptsFinish {G R : Type 0} (old now : Booked G R) (moment len : ℕ) (claim : ClaimView) : Type 0 where
  pub up : old.down ≡ false
  pub logs : IsLogged (state_in old) claim
  pub fell : Fell (released old claim) now (Some (record { entry = step_entry moment (step_of claim); payload = [] }))
  pub spare : now.spare ≡ old.spare
  pub length_is : len ≡ length old.history

abbrev pub FinishAnswers : {G R : Type 0} → Booked G R → Booked G R → ℕ → ClaimView → Result ℕ BookFault → Type 0
FinishAnswers old now moment claim (Ok position) = Finishes old now moment position claim
FinishAnswers old now moment claim (Err (book_fault.Down len)) = (old.down ≡ true) × (len ≡ length old.history) × (now ≡ released old claim)
FinishAnswers old now moment claim (Err (book_fault.DiskFault len)) = InterruptsFinish old now moment len claim

-- the payloads are those after the Cut or Erase, whose item has the payload that stood
abbrev pub FinishPayloads : {G R : Type 0} → Booked G R → Booked G R → ℕ → ClaimView → Result ℕ BookFault → Type 0
FinishPayloads old now moment claim (Ok position) = PayloadsGrew old now (step_entry moment (step_of claim)) [] × IsRead old.payloads claim
FinishPayloads old now moment claim (Err fault) = Unit {0}

-- it is as safe as a step of `work`
abbrev pub FinishIsSafe : {G R : Type 0} → (R → ℕ) → (R → Areas → Type 0) → (R → ℕ → Areas → Type 0) → Booked G R → Booked G R → ℕ → ClaimView → Result ℕ BookFault → Type 0
FinishIsSafe at may_leave left_since old now moment claim (Ok position) =
    LeavesEntry at may_leave left_since old (step_entry moment (step_of claim)) [] now.rig ×
    RestsLonger may_leave old (step_entry moment (step_of claim)) [] now.rig
FinishIsSafe at may_leave left_since old now moment claim (Err (book_fault.Down len)) = now.rig ≡ old.rig
FinishIsSafe at may_leave left_since old now moment claim (Err (book_fault.DiskFault len)) =
    LeavesEntry at may_leave left_since old (step_entry moment (step_of claim)) [] now.rig

abbrev pub FinishKeepsSeals : {G R : Type 0} → Booked G R → ℕ → ClaimView → Result ℕ BookFault → Type 0
FinishKeepsSeals old moment claim (Ok position) = StaysSealed old (step_entry moment (step_of claim)) []
FinishKeepsSeals old moment claim (Err (book_fault.Down len)) = Unit {0}
FinishKeepsSeals old moment claim (Err (book_fault.DiskFault len)) = StaysSealed old (step_entry moment (step_of claim)) []
