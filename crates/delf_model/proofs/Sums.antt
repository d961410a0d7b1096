-- Sums over rows after a change, each as a bound.
use Rattle.std.proofs.Common.{◌≡◌, ℕ, zero, suc, ◌+◌, ◌≤◌, ◌<◌, Bool, true, false, cond, not, eqb, ltb, List, [], ◌∷◌, Some, refl, ap, ◌∙◌, arith}
use Rattle.std.proofs.lemmas.List.Sums.{sum_by-cons}
use Rattle.std.specs.Prelude.{find, filter, map, sum_by, count_by, slice_get}
use Rattle.delf_model.specs.declared.rows.ObjectRow.{ObjectRow}
use Rattle.delf_model.specs.declared.rows.EdgeRow.{EdgeRow}
use Rattle.delf_model.specs.Graph.{put_object, put_edge, key_before, same_key}
use Rattle.delf_model.specs.State.{Logged, Handled}
use Rattle.delf_model.specs.Step.{handled_at}

-- a sum over a list with a row put into it
put_object_case : (f : ObjectRow → ℕ) (row x : ObjectRow) (xs rest : List ObjectRow) (before same : Bool) → sum_by f rest ≤ f row + sum_by f xs →
    sum_by f (cond before (row ∷ (x ∷ xs)) (cond same (row ∷ xs) (x ∷ rest))) ≤ f row + sum_by f (x ∷ xs)
put_object_case f row x xs rest true same IH = omega (arith, sum_by-cons f row (x ∷ xs))
put_object_case f row x xs rest false true IH = omega (arith, sum_by-cons f row xs, sum_by-cons f x xs)
put_object_case f row x xs rest false false IH = omega (arith, sum_by-cons f x rest, sum_by-cons f x xs)

pub sum_put_object : (f : ObjectRow → ℕ) (row : ObjectRow) (rows : List ObjectRow) → sum_by f (put_object row rows) ≤ f row + sum_by f rows
sum_put_object f row [] = omega (arith, sum_by-cons f row [])
sum_put_object f row (x ∷ xs) = put_object_case f row x xs (put_object row xs) (ltb row.id x.id) (eqb row.id x.id) (sum_put_object f row xs)

put_edge_case : (f : EdgeRow → ℕ) (row x : EdgeRow) (xs rest : List EdgeRow) (before same : Bool) → sum_by f rest ≤ f row + sum_by f xs →
    sum_by f (cond before (row ∷ (x ∷ xs)) (cond same (row ∷ xs) (x ∷ rest))) ≤ f row + sum_by f (x ∷ xs)
put_edge_case f row x xs rest true same IH = omega (arith, sum_by-cons f row (x ∷ xs))
put_edge_case f row x xs rest false true IH = omega (arith, sum_by-cons f row xs, sum_by-cons f x xs)
put_edge_case f row x xs rest false false IH = omega (arith, sum_by-cons f x rest, sum_by-cons f x xs)

pub sum_put_edge : (f : EdgeRow → ℕ) (row : EdgeRow) (rows : List EdgeRow) → sum_by f (put_edge row rows) ≤ f row + sum_by f rows
sum_put_edge f row [] = omega (arith, sum_by-cons f row [])
sum_put_edge f row (x ∷ xs) = put_edge_case f row x xs (put_edge row xs) (key_before row.key x.key) (same_key row.key x.key) (sum_put_edge f row xs)

-- a sum over what a filter keeps
filter_case : {A : Type 0} (f : A → ℕ) (x : A) (xs rest : List A) (b : Bool) → sum_by f rest ≤ sum_by f xs → sum_by f (cond b (x ∷ rest) rest) ≤ sum_by f (x ∷ xs)
filter_case f x xs rest true IH = omega (arith, sum_by-cons f x rest, sum_by-cons f x xs)
filter_case f x xs rest false IH = omega (arith, sum_by-cons f x xs)

pub sum_filter : {A : Type 0} (f : A → ℕ) (p : A → Bool) (xs : List A) → sum_by f (filter p xs) ≤ sum_by f xs
sum_filter f p [] = omega arith
sum_filter f p (x ∷ xs) = filter_case f x xs (filter p xs) (p x) (sum_filter f p xs)

-- what a test finds is left out by a filter of the others
without_case : {A : Type 0} (f : A → ℕ) (p : A → Bool) (x row : A) (xs : List A) (b : Bool) → p x ≡ b → cond b (Some x) (find p xs) ≡ Some row →
    sum_by f (filter (λ y. not (p y)) xs) ≤ sum_by f xs → (find p xs ≡ Some row → f row + sum_by f (filter (λ y. not (p y)) xs) ≤ sum_by f xs) →
    f row + sum_by f (cond (not b) (x ∷ filter (λ y. not (p y)) xs) (filter (λ y. not (p y)) xs)) ≤ sum_by f (x ∷ xs)
without_case f p x row xs true is found rest IH =
    let same : x ≡ row = cc in omega (arith, sum_by-cons f x xs, ap f same)
without_case f p x row xs false is found rest IH = omega (arith, sum_by-cons f x xs, sum_by-cons f x (filter (λ y. not (p y)) xs), IH found)

pub sum_without : {A : Type 0} (f : A → ℕ) (p : A → Bool) (row : A) (xs : List A) → find p xs ≡ Some row → f row + sum_by f (filter (λ y. not (p y)) xs) ≤ sum_by f xs
sum_without f p row [] found = absurd (cc found)
sum_without f p row (x ∷ xs) found = without_case f p x row xs (p x) refl found (sum_filter f (λ y. not (p y)) xs) (sum_without f p row xs)

-- a sum whose terms are no greater
pub sum_no_more : {A : Type 0} (f g : A → ℕ) (xs : List A) → ((x : A) → f x ≤ g x) → sum_by f xs ≤ sum_by g xs
sum_no_more f g [] less = omega arith
sum_no_more f g (x ∷ xs) less = omega (arith, sum_by-cons f x xs, sum_by-cons g x xs, less x, sum_no_more f g xs less)

-- and less by n where one that is found is
fall_case : {A : Type 0} (f g : A → ℕ) (n : ℕ) (p : A → Bool) (x row : A) (xs : List A) (b : Bool) → p x ≡ b → cond b (Some x) (find p xs) ≡ Some row →
    ((y : A) → f y ≤ g y) → f row + n ≤ g row → sum_by f xs ≤ sum_by g xs → (find p xs ≡ Some row → sum_by f xs + n ≤ sum_by g xs) →
    sum_by f (x ∷ xs) + n ≤ sum_by g (x ∷ xs)
fall_case f g n p x row xs true is found less falls rest IH =
    let same : x ≡ row = cc in omega (arith, sum_by-cons f x xs, sum_by-cons g x xs, ap f same, ap g same)
fall_case f g n p x row xs false is found less falls rest IH = omega (arith, sum_by-cons f x xs, sum_by-cons g x xs, less x, IH found)

pub sum_falls : {A : Type 0} (f g : A → ℕ) (n : ℕ) (p : A → Bool) (row : A) (xs : List A) → find p xs ≡ Some row → ((y : A) → f y ≤ g y) → f row + n ≤ g row →
    sum_by f xs + n ≤ sum_by g xs
sum_falls f g n p row [] found less falls = absurd (cc found)
sum_falls f g n p row (x ∷ xs) found less falls =
    fall_case f g n p x row xs (p x) refl found less falls (sum_no_more f g xs less) (λ here. sum_falls f g n p row xs here less falls)

-- a sum over rows that were changed one by one
pub sum_map : {A B : Type 0} (f : B → ℕ) (g : A → B) (xs : List A) → sum_by f (map g xs) ≡ sum_by (λ x. f (g x)) xs
sum_map f g [] = refl
sum_map f g (x ∷ xs) = omega (arith, sum_by-cons f (g x) (map g xs), sum_by-cons (λ y. f (g y)) x xs, sum_map f g xs)

-- a sum over items of which one was handled
pub sum_handled : (f : Logged → ℕ) (items : List Logged) (i : ℕ) (how : Handled) (logged : Logged) → slice_get items i ≡ Some logged →
    sum_by f (handled_at items i how) + f logged ≡ sum_by f items + f (record { item = logged.item; handled = Some how })
sum_handled f [] i how logged at = absurd (cc at)
sum_handled f (x ∷ xs) zero how logged at =
    let same : x ≡ logged = cc in
    omega (
      arith,
      sum_by-cons f (record { item = x.item; handled = Some how }) xs,
      sum_by-cons f x xs,
      ap f same,
      ap (λ (l : Logged). f (record { item = l.item; handled = Some how })) same,
    )
sum_handled f (x ∷ xs) (suc i) how logged at =
    omega (arith, sum_by-cons f x (handled_at xs i how), sum_by-cons f x xs, sum_handled f xs i how logged at)

-- a count is above 0 where something is found
pub count_found : {A : Type 0} (p q : A → Bool) (row : A) (xs : List A) → find p xs ≡ Some row → q row ≡ true → 0 < count_by q xs
count_found p q row [] found one = absurd (cc found)
count_found p q row (x ∷ xs) found one = by_hit (p x) refl found (count_found p q row xs)
  where
    by_hit : (hit : Bool) → p x ≡ hit → cond hit (Some x) (find p xs) ≡ Some row → (find p xs ≡ Some row → q row ≡ true → 0 < count_by q xs) → 0 < count_by q (x ∷ xs)
    by_hit true is here IH =
        let same : x ≡ row = cc in
        let counts : cond (q x) 1 0 ≡ 1 = ap (λ (b : Bool). one_of b) (ap q same ∙ one) in
        omega (arith, sum_by-cons (λ y. cond (q y) 1 0) x xs, counts)
      where
        one_of : Bool → ℕ
        one_of b = cond b 1 0
    by_hit false is here IH = omega (arith, sum_by-cons (λ y. cond (q y) 1 0) x xs, IH here one)
