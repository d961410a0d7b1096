-- What a row that is claimed leaves of a book.
use Rattle.std.proofs.Common.{◌≡◌, ℕ, ◌+◌, ◌≤◌, Bool, List, [], ◌∷◌, ◌++◌, length, Some, sym, ap, ◌∙◌, subst}
use Rattle.std.specs.Prelude.{Option}
use Rattle.delf_disk.specs.Areas.{Areas}
use Rattle.delf_model.specs.declared.entry.Entry.{Entry}
use Rattle.delf_model.specs.declared.entry.What.{What}
use Rattle.delf_model.specs.RuleSet.{RuleSet}
use Rattle.delf_model.specs.State.{State}
use Rattle.delf_model.specs.Step.{after}
use Rattle.held_laws.specs.Held.{would_log}
use Rattle.delete_step.specs.Claims.{ClaimView}
use Rattle.delf_book.specs.Parts.{Interrupted}
use Rattle.delf_book.specs.Books.{Booked}
use Rattle.delf_book.specs.Claims.{steps_of, IsLogged, AreLogged, KeepsClaims}
use Rattle.delf_book.specs.Keeping.{payloads_in}
use Rattle.delf_book.proofs.Claiming.{each_more, steps_more}
use Rattle.delf_book.proofs.Plainly.{at_ledger}
use Rattle.delf_book.proofs.Taking.{taken_is}

-- the claim has the item that its own step would log
pub logged_is : (s : State) (what : What) (claim : ClaimView) → would_log s what ≡ Some claim.item → IsLogged s claim
logged_is s what claim is = subst (λ (w : What). would_log s w ≡ Some claim.item) (sym (taken_is s what claim.item is)) is

-- what a book keeps of one claim more
pub claims_more : (rules now_rules : RuleSet) (h now : List Entry) (held now_held : List What) (spare now_spare : ℕ) (claims now_claims : List ClaimView) (capacity now_capacity : ℕ)
    (claim : ClaimView) (what : What) → now_rules ≡ rules → now ≡ h → now_held ≡ held ++ what ∷ [] → now_claims ≡ claims ++ claim ∷ [] →
    would_log (after rules h) what ≡ Some claim.item → length now_claims + now_spare ≤ now_capacity →
    KeepsClaims rules h held spare claims capacity → KeepsClaims now_rules now now_held now_spare now_claims now_capacity
claims_more rules now_rules h now held now_held spare now_spare claims now_claims capacity now_capacity claim what same_rules same same_held same_claims is room keeps =
    at_ledger (λ (r : RuleSet) (l : List Entry). KeepsClaims r l now_held now_spare now_claims now_capacity) rules now_rules h now same_rules same
    (record {
      steps = same_held ∙ ap (λ (l : List What). l ++ what ∷ []) keeps.steps ∙ ap (λ (w : What). steps_of claims ++ w ∷ []) (sym (taken_is (after rules h) what claim.item is))
          ∙ sym (steps_more claims claim) ∙ ap steps_of (sym same_claims);
      logged = subst (AreLogged (after rules h)) (sym same_claims) (each_more (IsLogged (after rules h)) claims claim keeps.logged (logged_is (after rules h) what claim is));
      room = room;
    })

-- a book of these parts
abbrev pub book_of : {G R : Type 0} → RuleSet → List Entry → Areas → List ClaimView → G → ℕ → Bool → Option Interrupted → R → R → Booked G R
book_of rules h areas held store spare down beside rig opened = record {
  rules = rules;
  history = h;
  payloads = payloads_in (after rules h) areas;
  store = store;
  held = held;
  spare = spare;
  down = down;
  beside = beside;
  rig = rig;
  opened = opened;
}

pub book_same : {G R : Type 0} (rules now_rules : RuleSet) (h now : List Entry) (areas : Areas) (held now_held : List ClaimView) (store : G) (spare : ℕ) (down : Bool)
    (beside : Option Interrupted) (rig opened : R) → now_rules ≡ rules → now ≡ h → now_held ≡ held →
    book_of now_rules now areas now_held store spare down beside rig opened ≡ book_of rules h areas held store spare down beside rig opened
book_same rules now_rules h now areas held now_held store spare down beside rig opened same_rules same same_held =
    at_ledger (λ (r : RuleSet) (l : List Entry). book_of r l areas now_held store spare down beside rig opened ≡ book_of rules h areas held store spare down beside rig opened)
    rules now_rules h now same_rules same (ap (λ (l : List ClaimView). book_of rules h areas l store spare down beside rig opened) same_held)
