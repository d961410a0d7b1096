-- Lists that are read by their places, and sums over them.
use Rattle.std.proofs.Common.{◌≡◌, ◌≢◌, ℕ, zero, suc, ◌+◌, ◌<◌, ◌≤◌, ◌⊎◌, List, [], ◌∷◌, ◌++◌, length, set, sym, refl, ap, ◌∙◌, inl, inr, ⊎_elim, subst, arith, ◌%◌, ◌^◌}
use mathlib.Core.Option.{some, some-injective, some-ne-none}
use lib.ListN.{get_elem?}
use Rattle.seat_lock.specs.Turns.{total}

module _ {A : Type 0} where
  pub at_below : (l : List A) (i : ℕ) (a : A) → get_elem? l i ≡ some a → i < length l
  at_below [] i a e = absurd (some-ne-none a (sym e))
  at_below (x ∷ xs) zero a e = omega arith
  at_below (x ∷ xs) (suc i) a e = let h : i < length xs = at_below xs i a e in omega arith

  pub one_at : (l : List A) (i j : ℕ) (a b : A) → get_elem? l i ≡ some a → get_elem? l j ≡ some b → i ≡ j → a ≡ b
  one_at l i j a b e f same = some-injective a b (sym e ∙ ap (λ (k : ℕ). get_elem? l k) same ∙ f)

  -- the elements of a list that is one longer, with their places
  pub at_snoc_index : (l : List A) (a b : A) (j : ℕ) → get_elem? (l ++ a ∷ []) j ≡ some b → ((j < length l) × (get_elem? l j ≡ some b)) ⊎ ((j ≡ length l) × (a ≡ b))
  at_snoc_index [] a b zero e = inr (refl, some-injective a b e)
  at_snoc_index [] a b (suc j) e = absurd (some-ne-none b (sym e))
  at_snoc_index (x ∷ xs) a b zero e = inl (omega arith, e)
  at_snoc_index (x ∷ xs) a b (suc j) e = ⊎_elim (λ t. let h : j < length xs = t.0 in inl (omega arith, t.1)) (λ t. inr (ap suc t.0, t.1)) (at_snoc_index xs a b j e)

  pub total-set : (f : A → ℕ) (l : List A) (i : ℕ) (a b : A) → get_elem? l i ≡ some a → total f (set l i b) + f a ≡ total f l + f b
  total-set f [] i a b e = absurd (some-ne-none a (sym e))
  total-set f (x ∷ xs) zero a b e = let p : f x ≡ f a = ap f (some-injective x a e) in omega arith
  total-set f (x ∷ xs) (suc i) a b e = let h : total f (set xs i b) + f a ≡ total f xs + f b = total-set f xs i a b e in omega arith

  pub total-snoc : (f : A → ℕ) (l : List A) (a : A) → total f (l ++ a ∷ []) ≡ total f l + f a
  total-snoc f [] a = omega arith
  total-snoc f (x ∷ xs) a = let h : total f (xs ++ a ∷ []) ≡ total f xs + f a = total-snoc f xs a in omega arith

  -- no one element weighs more than all
  pub total-at : (f : A → ℕ) (l : List A) (i : ℕ) (a : A) → get_elem? l i ≡ some a → f a ≤ total f l
  total-at f [] i a e = absurd (some-ne-none a (sym e))
  total-at f (x ∷ xs) zero a e = let p : f x ≡ f a = ap f (some-injective x a e) in omega arith
  total-at f (x ∷ xs) (suc i) a e = let h : f a ≤ total f xs = total-at f xs i a e in omega arith

  -- nor do two
  pub total-two : (f : A → ℕ) (l : List A) (i j : ℕ) (a b : A) → i ≢ j → get_elem? l i ≡ some a → get_elem? l j ≡ some b → f a + f b ≤ total f l
  total-two f [] i j a b ne e g = absurd (some-ne-none a (sym e))
  total-two f (x ∷ xs) zero zero a b ne e g = absurd (ne refl)
  total-two f (x ∷ xs) zero (suc j) a b ne e g =
      let p : f x ≡ f a = ap f (some-injective x a e) in
      let h : f b ≤ total f xs = total-at f xs j b g in
      omega arith
  total-two f (x ∷ xs) (suc i) zero a b ne e g =
      let p : f x ≡ f b = ap f (some-injective x b g) in
      let h : f a ≤ total f xs = total-at f xs i a e in
      omega arith
  total-two f (x ∷ xs) (suc i) (suc j) a b ne e g = let h : f a + f b ≤ total f xs = total-two f xs i j a b (λ s. ne (ap suc s)) e g in omega arith

  pub total-below : (f : A → ℕ) → ((a : A) → f a ≤ 1) → (l : List A) → total f l ≤ length l
  total-below f small [] = omega arith
  total-below f small (x ∷ xs) =
      let h : total f xs ≤ length xs = total-below f small xs in
      let p : f x ≤ 1 = small x in
      omega arith

  -- a fact of an element at its place, at an equal place and element
  pub carried : (P : ℕ → A → Type 0) (i j : ℕ) (a b : A) → j ≡ i → a ≡ b → P i a → P j b
  carried P i j a b same e h = subst (λ (k : ℕ). P k b) (sym same) (subst (λ (x : A). P i x) e h)

-- a word that was raised by k
pub raised-mod : (n k : ℕ) → (n % 2 ^ 64 + k) % 2 ^ 64 ≡ (n + k) % 2 ^ 64
raised-mod n k = omega arith
