-- The claims that a book holds, and what of them stays.
use Rattle.std.specs.Prelude.{◌≡◌, ℕ, ◌+◌, ◌≤◌, cond, List, [], ◌∷◌, Some, length, map}
use Rattle.std.specs.List.{AllByRecursion}
use Rattle.delf_model.specs.declared.entry.Entry.{Entry}
use Rattle.delf_model.specs.declared.entry.What.{What}
use Rattle.delf_model.specs.declared.entry.What.TheVariants.{Cut, Erase}
use Rattle.delf_model.specs.declared.rows.Item.{Item}
use Rattle.delf_model.specs.declared.rows.Item.TheVariants as item
use Rattle.delf_model.specs.RuleSet.{RuleSet}
use Rattle.delf_model.specs.State.{State, position_of}
use Rattle.delf_model.specs.Step.{after}
use Rattle.delf_model.specs.Order.{erases_same}
use Rattle.delf_model.specs.Payloads.{Payloads, payload_at}
use Rattle.held_laws.specs.Held.{would_log}
use Rattle.delete_step.specs.Claims.{ClaimView}
use Rattle.delf_book.specs.Books.{Booked}

-- the step that takes the row of an item
abbrev pub taken_by : Item → What
taken_by (item.Object job row) = Erase job row.id
taken_by (item.Edge job row from_birth to_birth) = Cut job row.key.edge row.key.from row.key.to

-- the step that a claim is on
abbrev pub step_of : ClaimView → What
step_of claim = taken_by claim.item

abbrev pub steps_of : List ClaimView → List What
steps_of claims = map step_of claims

-- the claims without the first that is on the same row
abbrev pub without : ClaimView → List ClaimView → List ClaimView
without claim [] = []
without claim (x ∷ xs) = cond (erases_same (step_of claim) (step_of x)) xs (x ∷ without claim xs)

-- a book that has given the claim up
abbrev pub released : {G R : Type 0} → Booked G R → ClaimView → Booked G R
released book claim = record book { held = without claim book.held }

-- the item is the one that the step of the claim would log
abbrev pub IsLogged : State → ClaimView → Type 0
IsLogged s claim = would_log s (step_of claim) ≡ Some claim.item

-- the payload is the one that stands at the position of the row
abbrev pub IsRead : Payloads → ClaimView → Type 0
IsRead e claim = payload_at e (position_of claim.item) ≡ claim.payload

-- the room of a book that has room for so many further steps and holds so many claims: a step that is claimed takes room
-- where it is held, and again where it is entered
abbrev pub room_for : ℕ → ℕ → ℕ
room_for spare claims = spare + spare + claims

-- each has the item that its step would log, and the payload that stands
abbrev pub AreLogged : State → List ClaimView → Type 0
AreLogged s claims = AllByRecursion (IsLogged s) claims

abbrev pub AreRead : Payloads → List ClaimView → Type 0
AreRead e claims = AllByRecursion (IsRead e) claims

-- what a book keeps of its claims: their steps are those that the ledger holds, and there is room for further ones
pub record KeepsClaims (rules : RuleSet) (history : List Entry) (held : List What) (spare : ℕ) (claims : List ClaimView) (capacity : ℕ) : Type 0 where
  pub steps : held ≡ steps_of claims
  pub logged : AreLogged (after rules history) claims
  pub room : length claims + spare ≤ capacity
