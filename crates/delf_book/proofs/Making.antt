-- A step that is made at once, told of the book that it found.
use Rattle.std.proofs.Common.{◌≡◌, ℕ, true, false, List, [], ◌∷◌, ◌++◌, Some, sym, ap, ◌∙◌, subst}
use Rattle.std.proofs.lemmas.Bool.{and_parts}
use Rattle.std.proofs.lemmas.Option.{same_Some}
use Rattle.delf_model.specs.declared.entry.Entry.{Entry}
use Rattle.delf_model.specs.declared.entry.What.{What}
use Rattle.delf_model.specs.Legal.{is_legal}
use Rattle.delf_model.specs.Order.{is_step, is_legal_step, is_held}
use Rattle.delf_book.specs.Parts.{Interrupted}
use Rattle.delf_book.specs.Begun.{MayBegin}
use Rattle.delf_book.specs.Books.{Booked, state_in}
use Rattle.delf_book.specs.Claims.{steps_of, KeepsClaims}
use Rattle.delf_book.specs.Steps.{step_entry}

-- two histories that are one entry longer than a third, and the same, have the same last entry
one_entry : (h : List Entry) (a b : Entry) → h ++ a ∷ [] ≡ h ++ b ∷ [] → a ≡ b
one_entry [] a b same = let one : a ∷ [] ≡ b ∷ [] = same in cc one
one_entry (x ∷ xs) a b same = let one : x ∷ (xs ++ a ∷ []) ≡ x ∷ (xs ++ b ∷ []) = same in one_entry xs a b (cc one)

module _ {G R : Type 0} (view book : Booked G R) (is : view ≡ book) (entry : Entry) where
  -- what holds of the entry that was made holds of the last of the history that is left
  pub of_made : (longer : List Entry) → longer ≡ view.history ++ entry ∷ [] → (Q : Booked G R → Entry → Type 0) → Q view entry →
      (other : What) → longer ≡ book.history ++ step_entry entry.moment other ∷ [] → Q book (step_entry entry.moment other)
  of_made longer made Q holds =
      subst (λ (b : Booked G R). (other : What) → longer ≡ b.history ++ step_entry entry.moment other ∷ [] → Q b (step_entry entry.moment other)) is
      (λ other at. subst (Q view) (one_entry view.history entry (step_entry entry.moment other) (sym made ∙ at)) holds)

  -- and of the one that stands beside it
  pub of_beside : (it : Interrupted) → it.entry ≡ entry → (Q : Booked G R → Entry → Type 0) → Q view entry →
      (other : What) → Some it ≡ Some (record { entry = step_entry entry.moment other; payload = [] }) → Q book (step_entry entry.moment other)
  of_beside it same Q holds =
      subst (λ (b : Booked G R). (other : What) → Some it ≡ Some (record { entry = step_entry entry.moment other; payload = [] }) → Q b (step_entry entry.moment other)) is
      (λ other at.
      let told : Interrupted = record { entry = step_entry entry.moment other; payload = [] } in
      subst (Q view) (sym same ∙ ap (λ (i : Interrupted). i.entry) (same_Some it told at)) holds)

  -- it is legal
  pub made_line : MayBegin book entry.moment entry.what → is_legal (state_in view) entry ≡ true
  made_line may =
      (and_parts (is_step entry.what) (is_legal (state_in view) entry)
      (subst (λ (b : Booked G R). is_legal_step (state_in b) entry.moment entry.what ≡ true) (sym is) may.free.0)).1

  -- and no claim is on its row
  pub made_free : (held : List What) (spare capacity : ℕ) → KeepsClaims view.rules view.history held spare view.held capacity → MayBegin book entry.moment entry.what →
      is_held held entry.what ≡ false
  made_free held spare capacity keeps may =
      subst (λ (l : List What). is_held l entry.what ≡ false) (sym keeps.steps)
      (subst (λ (b : Booked G R). is_held (steps_of b.held) entry.what ≡ false) (sym is) may.free.1)
