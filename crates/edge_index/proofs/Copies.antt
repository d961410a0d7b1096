-- A list that is copied from its front.
use Rattle.std.proofs.Common.{◌≡◌, ℕ, zero, suc, ◌+◌, List, [], ◌∷◌, ◌++◌, Some, None, take, refl, sym, ap, ◌∙◌, add-one}
use Rattle.std.specs.Prelude.{slice_get}

take_got : {X : Type 0} (xs : List X) (i : ℕ) (x : X) → slice_get xs i ≡ Some x → take i xs ++ x ∷ [] ≡ take (suc i) xs
take_got [] i x is = absurd (cc is)
take_got (y ∷ ys) zero x is = let same : y ≡ x = cc is in ap (λ z. z ∷ []) (sym same)
take_got (y ∷ ys) (suc i) x is = ap (λ zs. y ∷ zs) (take_got ys i x is)

take_past : {X : Type 0} (xs : List X) (i : ℕ) → slice_get xs i ≡ None → take i xs ≡ take (suc i) xs
take_past [] zero is = refl
take_past [] (suc i) is = refl
take_past (y ∷ ys) zero is = absurd (cc is)
take_past (y ∷ ys) (suc i) is = ap (λ zs. y ∷ zs) (take_past ys i is)

pub copied_more : {X : Type 0} (xs old new : List X) (i : ℕ) (x : X) → old ≡ take i xs → Some x ≡ slice_get xs i → new ≡ old ++ x ∷ [] → new ≡ take (i + 1) xs
copied_more xs old new i x front is more =
    more ∙ ap (λ zs. zs ++ x ∷ []) front ∙ take_got xs i x (sym is) ∙ ap (λ n. take n xs) (sym (add-one i))

pub copied_none : {X : Type 0} (xs old : List X) (i : ℕ) → old ≡ take i xs → None ≡ slice_get xs i → old ≡ take (i + 1) xs
copied_none xs old i front is = front ∙ take_past xs i (sym is) ∙ ap (λ n. take n xs) (sym (add-one i))
