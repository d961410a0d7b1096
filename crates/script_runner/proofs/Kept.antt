-- What comes after a history keeps the payload of each position of that history that it needs.
use Rattle.std.proofs.Common.{◌≡◌, ℕ, Bool, true, false, cond, List, [], ◌∷◌, length, refl, sym, ap, subst, ◌∙◌, arith}
use Rattle.std.proofs.lemmas.Bool.{eq-eqb, cond-false, false≢true}
use Rattle.std.proofs.lemmas.List.Elements.{All-contains, All-contains_itself, All-filter, All-from_recursion, Contains-push}
use Rattle.std.specs.Prelude.{Option, Some, None, filter, find}
use Rattle.std.specs.List.{All, AllByRecursion, Contains}
use Rattle.delf_model.specs.State.{State}
use Rattle.delf_model.specs.Payloads.{Payloads, is_needed, is_at, payload_at}
use Rattle.delf_book.specs.Holding.{ArePaired}
use Rattle.delf_book.proofs.Paired.{same_bytes, the_pair}

-- what a filter lets through is in the list
from_filter : {A : Type 0} (keep : A → Bool) (xs : List A) (x : A) → Contains (filter keep xs) x → Contains xs x
from_filter keep xs x there = All-contains (Contains xs) (filter keep xs) x (All-filter keep (Contains xs) xs (All-contains_itself xs)) there

-- where nothing comes through, nothing passes the test

at_none : {A : Type 0} (b : Bool) (x : A) (rest : List A) → cond b (x ∷ rest) rest ≡ [] → (b ≡ false) × (rest ≡ [])
at_none true x rest none = let count = ap length none in absurd (omega (arith, count))
at_none false x rest none = (refl, none)

none_passes : {A : Type 0} (keep : A → Bool) (xs : List A) → filter keep xs ≡ [] → AllByRecursion (λ x. keep x ≡ true → ⊥) xs
none_passes keep [] none = tt
none_passes keep (x ∷ xs) none =
    let it = at_none (keep x) x (filter keep xs) none in
    (λ passes. false≢true (sym it.0 ∙ passes), none_passes keep xs it.1)

module _ (s t : State) (d e : Payloads) (p : ℕ) (old : ArePaired s d) (now : ArePaired t e) (needed : is_needed t p ≡ true)
    (stood : (bytes : List ℕ) → Contains {X = ℕ × List ℕ} e.bytes (p, bytes) → Contains {X = ℕ × List ℕ} d.bytes (p, bytes)) where
  here : Contains {X = ℕ × List ℕ} e.bytes (p, payload_at e p)
  here = from_filter (is_at p) e.bytes (p, payload_at e p)
      (subst (λ (l : List (ℕ × List ℕ)). Contains {X = ℕ × List ℕ} l (p, payload_at e p)) (sym (the_pair t e p now needed)) (Contains-push [] (p, payload_at e p)))

  -- what is needed was needed, since its pair stood
  was_needed : is_needed s p ≡ true
  was_needed = by_need (is_needed s p) refl where
    by_need : (b : Bool) → is_needed s p ≡ b → is_needed s p ≡ true
    by_need true is = is
    by_need false is = absurd (All-contains (λ (x : ℕ × List ℕ). is_at p x ≡ true → ⊥) d.bytes (p, payload_at e p)
        (All-from_recursion (λ (x : ℕ × List ℕ). is_at p x ≡ true → ⊥) d.bytes
        (none_passes (is_at p) d.bytes (old p ∙ cond-false (is_needed s p) ((p, payload_at d p) ∷ []) [] is)))
        (stood (payload_at e p) here) (eq-eqb p p refl))

  pub kept_bytes : payload_at e p ≡ payload_at d p
  kept_bytes = same_bytes s t d e p old now was_needed needed stood

-- what is not needed has no pair

none_found : {A : Type 0} (keep : A → Bool) (xs : List A) → filter keep xs ≡ [] → find keep xs ≡ None
none_found keep [] none = refl
none_found {A = A} keep (x ∷ xs) none =
    let it = at_none (keep x) x (filter keep xs) none in
    cond-false (keep x) (Some x) (find keep xs) it.0 ∙ none_found keep xs it.1

pub no_other : (s : State) (e : Payloads) → ArePaired s e → (p : ℕ) → is_needed s p ≡ false → find (is_at p) e.bytes ≡ None
no_other s e paired p unneeded =
    none_found (is_at p) e.bytes (paired p ∙ cond-false (is_needed s p) ((p, payload_at e p) ∷ []) [] unneeded)
