-- Lists by their places.
use Rattle.std.proofs.Common.{◌≡◌, ℕ, zero, suc, ◌<◌, ◌⊎◌, List, [], ◌∷◌, ◌++◌, length, Some, refl, arith, ⊎_elim, inl, inr}
use Rattle.std.specs.Prelude.{slice_get}

module _ {A : Type 0} where
  -- an element of a list that is one longer, with its place
  pub push_cases : (xs : List A) (x y : A) (k : ℕ) → slice_get (xs ++ x ∷ []) k ≡ Some y → ((k < length xs) × (slice_get xs k ≡ Some y)) ⊎ ((k ≡ length xs) × (x ≡ y))
  push_cases [] x y zero at = inr (refl, cc)
  push_cases [] x y (suc k) at = absurd (cc at)
  push_cases (z ∷ xs) x y zero at = inl (omega arith, at)
  push_cases (z ∷ xs) x y (suc k) at =
      ⊎_elim (λ t. let h : k < length xs = t.0 in inl (omega (arith, h), t.1)) (λ t. let h : k ≡ length xs = t.0 in inr (omega (arith, h), t.1)) (push_cases xs x y k at)
