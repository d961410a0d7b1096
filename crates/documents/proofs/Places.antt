-- Past the last place of a list there is none.
use Rattle.std.proofs.Common.{◌≡◌, ℕ, zero, suc, ◌≤◌, None, List, [], ◌∷◌, length, take, refl, ap, arith}
use Rattle.std.specs.Prelude.{slice_get}

pub slice_past : {A : Type 0} (xs : List A) (i : ℕ) → slice_get xs i ≡ None → take i xs ≡ xs
slice_past [] zero is = refl
slice_past [] (suc i) is = refl
slice_past (y ∷ ys) zero is = absurd (cc is)
slice_past (y ∷ ys) (suc i) is = ap (λ (zs : List _). y ∷ zs) (slice_past ys i is)

pub take_past : {A : Type 0} (xs : List A) (n : ℕ) → length xs ≤ n → take n xs ≡ xs
take_past [] zero is = refl
take_past [] (suc n) is = refl
take_past (y ∷ ys) zero is = absurd (omega arith)
take_past (y ∷ ys) (suc n) is = ap (λ (zs : List _). y ∷ zs) (take_past ys n (omega arith))
