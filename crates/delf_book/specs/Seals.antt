-- What calls and steps make of the seals of a store that stands whole.
use Rattle.std.specs.Prelude.{◌≡◌, ℕ, List, [], ◌∷◌, ◌++◌, Some, Result, Ok, Err}
use Rattle.delf_model.specs.declared.call.Call.{Call}
use Rattle.delf_model.specs.declared.call.Refusal.{Refusal}
use Rattle.delf_model.specs.declared.call.Refusal.TheVariants as refusal
use Rattle.delf_model.specs.declared.entry.Entry.{Entry}
use Rattle.delf_model.specs.declared.entry.What.{What}
use Rattle.delf_model.specs.Reply.{reply}
use Rattle.delf_model.specs.Order.{first_step}
use Rattle.delf_model.specs.Payloads.{payloads_after}
use Rattle.store_laws.specs.Stores.{digest, AreSealed}
use Rattle.delf_book.specs.Books.{Booked, state_in, given_by}
use Rattle.delf_book.specs.Steps.{step_entry}
use Rattle.delf_book.specs.declared.answers.Receipt.{Receipt}
use Rattle.delf_book.specs.declared.answers.Worked.{Worked}
use Rattle.delf_book.specs.declared.answers.Worked.TheVariants as worked
use Rattle.delf_book.specs.declared.answers.StepFault.{StepFault}
use Rattle.delf_book.specs.declared.answers.StepFault.TheVariants as fault

-- where each payload of the restoration log is the one that was sealed, so it is with this entry more
abbrev pub StaysSealed : {G R : Type 0} → Booked G R → Entry → List ℕ → Type 0
StaysSealed old entry given =
    AreSealed old.rules old.history old.payloads →
    AreSealed old.rules (old.history ++ entry ∷ []) (payloads_after digest (state_in old) entry given old.payloads)

-- the same of a call: a store that stood whole stands whole, also where a disk fault leaves the entry beside the history
abbrev pub CallKeepsSeals : {G R : Type 0} → Booked G R → ℕ → ℕ → Call → Result Receipt Refusal → Type 0
CallKeepsSeals old moment seat asked (Ok receipt) =
    (what : What) → reply (state_in old) moment seat asked ≡ Ok what → StaysSealed old (record { moment = moment; what = what }) (given_by asked)
CallKeepsSeals old moment seat asked (Err (refusal.DiskFault len)) =
    (what : What) → reply (state_in old) moment seat asked ≡ Ok what → StaysSealed old (record { moment = moment; what = what }) (given_by asked)
CallKeepsSeals old moment seat asked (Err refusal) = Unit {0}

-- and of a step, which over a store that stands whole finds no damage
abbrev pub StepKeepsSeals : {G R : Type 0} → Booked G R → ℕ → Result Worked StepFault → Type 0
StepKeepsSeals old moment (Ok (worked.Stepped position)) = (what : What) → first_step (state_in old) moment ≡ Some what → StaysSealed old (step_entry moment what) []
StepKeepsSeals old moment (Ok (worked.Idle len)) = Unit {0}
StepKeepsSeals old moment (Err (fault.Down len)) = Unit {0}
StepKeepsSeals old moment (Err fault.OutOfMemory) = Unit {0}
StepKeepsSeals old moment (Err (fault.DiskFault len)) = (what : What) → first_step (state_in old) moment ≡ Some what → StaysSealed old (step_entry moment what) []
StepKeepsSeals old moment (Err (fault.Damaged item stored found)) = AreSealed old.rules old.history old.payloads → ⊥
