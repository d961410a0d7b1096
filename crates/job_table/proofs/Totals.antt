-- Sums over objects and edges whose owners move.
use Rattle.std.proofs.Common.{◌≡◌, ℕ, ◌+◌, ◌<◌, ◌≤◌, Bool, true, false, cond, List, [], ◌∷◌, map, Option, Some, None, refl, sym, ◌∙◌, ap, arith, ltb, eqb}
use Rattle.std.specs.Prelude.{find, filter, sum_by}
use Rattle.std.proofs.lemmas.Bool.Decides.{nat_tests}
use Rattle.std.proofs.lemmas.Grind.{common_steps}
use Rattle.delf_model.specs.declared.rows.ObjectRow.{ObjectRow}
use Rattle.delf_model.specs.Graph.{has_id, put_object, is_other_object, rewritten, rises_after, objects_rise}
use Rattle.delf_model.specs.State.{Owners, owner_in}
use Rattle.job_table.proofs.Lookups.{find_is, find-filter_object, both, join}
use Rattle.job_table.proofs.Sums.{sum_by-same, sum_by-put_object, sum_by-filter_object, sum_by-rewritten, sum_by-change, sum_by-absent}

-- ids still rise after a change

pub rises_wider : (low high : ℕ) (xs : List ObjectRow) → low ≤ high → rises_after high xs ≡ true → rises_after low xs ≡ true
rises_wider low high [] l h = refl
rises_wider low high (x ∷ xs) l h = grind (arith, nat_tests, common_steps)

pub rises_put : (row : ObjectRow) (low : ℕ) (xs : List ObjectRow) → low < row.id → rises_after low xs ≡ true → rises_after low (put_object row xs) ≡ true
rises_put row low [] l h = grind (arith, nat_tests, common_steps)
rises_put row low (x ∷ xs) l h = grind (arith, nat_tests, common_steps, rises_put row x.id xs)

pub objects_rise_put : (row : ObjectRow) (xs : List ObjectRow) → objects_rise xs ≡ true → objects_rise (put_object row xs) ≡ true
objects_rise_put row [] h = refl
objects_rise_put row (x ∷ xs) h = grind (arith, nat_tests, common_steps, rises_put row x.id xs)

pub rises_filter : (id low : ℕ) (xs : List ObjectRow) → rises_after low xs ≡ true → rises_after low (filter (is_other_object id) xs) ≡ true
rises_filter id low [] h = refl
rises_filter id low (x ∷ xs) h =
    let parts = both (ltb low x.id) (rises_after x.id xs) h in
    let wide : rises_after low (filter (is_other_object id) xs) ≡ true = rises_filter id low xs (rises_wider low x.id xs (let l : low < x.id = grind (arith, nat_tests, parts.0) in omega arith) parts.1) in
    let near : rises_after x.id (filter (is_other_object id) xs) ≡ true = rises_filter id x.id xs parts.1 in
    go (is_other_object id x) (join (ltb low x.id) (rises_after x.id (filter (is_other_object id) xs)) parts.0 near) wide
  where
    go : (b : Bool) → rises_after low (x ∷ filter (is_other_object id) xs) ≡ true → rises_after low (filter (is_other_object id) xs) ≡ true →
        rises_after low (cond b (x ∷ filter (is_other_object id) xs) (filter (is_other_object id) xs)) ≡ true
    go true a b = a
    go false a b = b

pub objects_rise_filter : (id : ℕ) (xs : List ObjectRow) → objects_rise xs ≡ true → objects_rise (filter (is_other_object id) xs) ≡ true
objects_rise_filter id [] h = refl
objects_rise_filter id (x ∷ xs) h = go (is_other_object id x) (rises_filter id x.id xs h) (filter (is_other_object id) xs)
  where
    tail : (low : ℕ) (ys : List ObjectRow) → rises_after low ys ≡ true → objects_rise ys ≡ true
    tail low [] e = refl
    tail low (y ∷ ys) e = (both (ltb low y.id) (rises_after y.id ys) e).1

    go : (b : Bool) → rises_after x.id (filter (is_other_object id) xs) ≡ true → (ys : List ObjectRow) →
        objects_rise (cond b (x ∷ filter (is_other_object id) xs) (filter (is_other_object id) xs)) ≡ true
    go true a ys = a
    go false a ys = tail x.id (filter (is_other_object id) xs) a

pub rises_rewritten : (id at size low : ℕ) (xs : List ObjectRow) → rises_after low xs ≡ true → rises_after low (map (rewritten id at size) xs) ≡ true
rises_rewritten id at size low [] h = refl
rises_rewritten id at size low (x ∷ xs) h =
    let parts = both (ltb low x.id) (rises_after x.id xs) h in
    go (eqb x.id id) parts.0 (rises_rewritten id at size x.id xs parts.1)
  where
    go : (b : Bool) → ltb low x.id ≡ true → rises_after x.id (map (rewritten id at size) xs) ≡ true →
        rises_after low (cond b (record x { at = at; size = size }) x ∷ map (rewritten id at size) xs) ≡ true
    go true a t = join (ltb low x.id) (rises_after x.id (map (rewritten id at size) xs)) a t
    go false a t = join (ltb low x.id) (rises_after x.id (map (rewritten id at size) xs)) a t

pub objects_rise_rewritten : (id at size : ℕ) (xs : List ObjectRow) → objects_rise xs ≡ true → objects_rise (map (rewritten id at size) xs) ≡ true
objects_rise_rewritten id at size [] h = refl
objects_rise_rewritten id at size (x ∷ xs) h = go (eqb x.id id) (rises_rewritten id at size x.id xs h)
  where
    go : (b : Bool) → rises_after x.id (map (rewritten id at size) xs) ≡ true →
        objects_rise (cond b (record x { at = at; size = size }) x ∷ map (rewritten id at size) xs) ≡ true
    go true a = a
    go false a = a

-- a sum of what each object's owner weighs

abbrev pub weighed : (Option ℕ → ℕ) → Owners → ObjectRow → ℕ
weighed h owners row = h (owner_in owners row.id)

abbrev pub total : (Option ℕ → ℕ) → Owners → List ObjectRow → ℕ
total h owners rows = sum_by (weighed h owners) rows

pub total_same : (h : Option ℕ → ℕ) (old new : Owners) (rows : List ObjectRow) →
    ((id : ℕ) → owner_in new id ≡ owner_in old id) → total h new rows ≡ total h old rows
total_same h old new rows e = sum_by-same (weighed h new) (weighed h old) rows (λ x. ap h (e x.id))

pub total_put : (h : Option ℕ → ℕ) (old new : Owners) (row : ObjectRow) (rows : List ObjectRow) → find (has_id row.id) rows ≡ None →
    ((id : ℕ) → owner_in new id ≡ owner_in old id) → owner_in old row.id ≡ None →
    total h new (put_object row rows) ≡ total h old rows + h None
total_put h old new row rows n e o =
    let a = total_same h old new (put_object row rows) e in
    let b = sum_by-put_object (weighed h old) row rows n in
    let d : weighed h old row ≡ h None = ap h o in
    omega (arith, a, b, d)

pub rewritten_id : (id at size : ℕ) (x : ObjectRow) → (rewritten id at size x).id ≡ x.id
rewritten_id id at size x = go (eqb x.id id)
  where
    go : (b : Bool) → (cond b (record x { at = at; size = size }) x).id ≡ x.id
    go true = refl
    go false = refl

pub total_rewritten : (h : Option ℕ → ℕ) (old new : Owners) (id at size : ℕ) (rows : List ObjectRow) →
    ((other : ℕ) → owner_in new other ≡ owner_in old other) → total h new (map (rewritten id at size) rows) ≡ total h old rows
total_rewritten h old new id at size rows e =
    sum_by-rewritten (weighed h new) id at size rows (λ x. ap (λ (n : ℕ). h (owner_in new n)) (rewritten_id id at size x))
    ∙ total_same h old new rows e

pub none_left : (id : ℕ) (xs : List ObjectRow) → find (has_id id) (filter (is_other_object id) xs) ≡ None
none_left id xs = grind (arith, nat_tests, find-filter_object id id xs)

pub total_filter : (h : Option ℕ → ℕ) (old new : Owners) (id : ℕ) (row : ObjectRow) (rows : List ObjectRow) → objects_rise rows ≡ true →
    find (has_id id) rows ≡ Some row → ((other : ℕ) → (other ≡ id → ⊥) → owner_in new other ≡ owner_in old other) →
    total h new (filter (is_other_object id) rows) + h (owner_in old id) ≡ total h old rows
total_filter h old new id row rows o f e =
    let a = sum_by-absent (weighed h new) (weighed h old) id (filter (is_other_object id) rows) (λ x n. ap h (e x.id n)) (none_left id rows) in
    let b = sum_by-filter_object (weighed h old) id row rows o f in
    let d : weighed h old row ≡ h (owner_in old id) = ap (λ (n : ℕ). h (owner_in old n)) (find_is id row rows f) in
    omega (arith, a, b, d)

pub total_change : (h : Option ℕ → ℕ) (old new : Owners) (id : ℕ) (row : ObjectRow) (rows : List ObjectRow) → objects_rise rows ≡ true →
    find (has_id id) rows ≡ Some row → ((other : ℕ) → (other ≡ id → ⊥) → owner_in new other ≡ owner_in old other) →
    total h new rows + h (owner_in old id) ≡ total h old rows + h (owner_in new id)
total_change h old new id row rows o f e =
    let a = sum_by-change (weighed h old) (weighed h new) id row rows o (λ x n. ap h (sym (e x.id n))) f in
    let b : weighed h old row ≡ h (owner_in old id) = ap (λ (n : ℕ). h (owner_in old n)) (find_is id row rows f) in
    let d : weighed h new row ≡ h (owner_in new id) = ap (λ (n : ℕ). h (owner_in new n)) (find_is id row rows f) in
    omega (arith, a, b, d)
