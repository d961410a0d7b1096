-- Look-ups of rows after a change of a graph.
use Rattle.std.proofs.Common.{◌≡◌, ℕ, Bool, true, false, cond, ◌&&◌, ◌||◌, List, [], ◌∷◌, map, Option, Some, None, is_some, refl, ◌∙◌, ap, arith, eqb}
use Rattle.std.specs.Prelude.{find, filter, option_map}
use Rattle.std.specs.List.{list_all}
use Rattle.std.proofs.lemmas.Bool.Decides.{nat_tests}
use Rattle.std.proofs.lemmas.Grind.{common_steps}
use Rattle.delf_model.specs.declared.rows.ObjectRow.{ObjectRow}
use Rattle.delf_model.specs.declared.rows.EdgeKey.{EdgeKey}
use Rattle.delf_model.specs.declared.rows.EdgeRow.{EdgeRow}
use Rattle.delf_model.specs.Graph.{has_id, has_key, same_key, put_object, put_edge, is_other_object, is_other_edge, rewritten}

-- look-ups after a change of a list

pub find-put_object : (row : ObjectRow) (id : ℕ) (xs : List ObjectRow) →
    find (has_id id) (put_object row xs) ≡ cond (eqb row.id id) (Some row) (find (has_id id) xs)
find-put_object row id [] = grind (arith, nat_tests, common_steps)
find-put_object row id (x ∷ xs) = grind (arith, nat_tests, common_steps, find-put_object row id xs)

pub find-filter_object : (gone id : ℕ) (xs : List ObjectRow) →
    find (has_id id) (filter (is_other_object gone) xs) ≡ cond (eqb gone id) None (find (has_id id) xs)
find-filter_object gone id [] = grind (arith, nat_tests, common_steps)
find-filter_object gone id (x ∷ xs) = grind (arith, nat_tests, common_steps, find-filter_object gone id xs)

pub find-rewritten : (gone at size id : ℕ) (xs : List ObjectRow) →
    find (has_id id) (map (rewritten gone at size) xs) ≡ option_map (rewritten gone at size) (find (has_id id) xs)
find-rewritten gone at size id [] = grind (arith, nat_tests, common_steps)
find-rewritten gone at size id (x ∷ xs) = grind (arith, nat_tests, common_steps, find-rewritten gone at size id xs)

pub find_is : (id : ℕ) (row : ObjectRow) (xs : List ObjectRow) → find (has_id id) xs ≡ Some row → row.id ≡ id
find_is id row [] e = grind (arith, nat_tests, common_steps)
find_is id row (x ∷ xs) e = grind (arith, nat_tests, common_steps, find_is id row xs)

pub find-put_edge : (row : EdgeRow) (key : EdgeKey) (xs : List EdgeRow) →
    find (has_key key) (put_edge row xs) ≡ cond (same_key row.key key) (Some row) (find (has_key key) xs)
find-put_edge row key [] = grind (arith, nat_tests, common_steps)
find-put_edge row key (x ∷ xs) = grind (arith, nat_tests, common_steps, find-put_edge row key xs)

pub find-filter_edge : (gone key : EdgeKey) (xs : List EdgeRow) →
    find (has_key key) (filter (is_other_edge gone) xs) ≡ cond (same_key gone key) None (find (has_key key) xs)
find-filter_edge gone key [] = grind (arith, nat_tests, common_steps)
find-filter_edge gone key (x ∷ xs) = grind (arith, nat_tests, common_steps, find-filter_edge gone key xs)

pub same_key_is : (a b : EdgeKey) → same_key a b ≡ true → a ≡ b
same_key_is a b e = grind (arith, nat_tests, common_steps)

pub same_key_self : (a : EdgeKey) → same_key a a ≡ true
same_key_self a = grind (arith, nat_tests, common_steps)

pub both : (a b : Bool) → (a && b) ≡ true → (a ≡ true) × (b ≡ true)
both true b h = (refl, h)
both false b h = absurd (cc h)

pub join : (a b : Bool) → a ≡ true → b ≡ true → (a && b) ≡ true
join true b h k = k
join false b h k = absurd (cc h)

pub list_all_mono : {R : Type 0} (p q : R → Bool) (xs : List R) → ((x : R) → p x ≡ true → q x ≡ true) →
    list_all p xs ≡ true → list_all q xs ≡ true
list_all_mono p q [] f h = refl
list_all_mono p q (x ∷ xs) f h =
    let parts = both (p x) (list_all p xs) h in
    join (q x) (list_all q xs) (f x parts.0) (list_all_mono p q xs f parts.1)

-- each edge of a list is found in it
pub all_found : (xs : List EdgeRow) → list_all (λ row. is_some (find (has_key row.key) xs)) xs ≡ true
all_found [] = refl
all_found (x ∷ xs) =
    join (is_some (find (has_key x.key) (x ∷ xs))) (list_all (λ row. is_some (find (has_key row.key) (x ∷ xs))) xs)
    (ap (λ (b : Bool). is_some (cond b (Some x) (find (has_key x.key) xs))) (same_key_self x.key))
    (list_all_mono (λ row. is_some (find (has_key row.key) xs)) (λ row. is_some (find (has_key row.key) (x ∷ xs))) xs
    (λ y h. found_more (same_key x.key y.key) x (find (has_key y.key) xs) h) (all_found xs))
  where
    found_more : (b : Bool) (y : EdgeRow) (o : Option EdgeRow) → is_some o ≡ true → is_some (cond b (Some y) o) ≡ true
    found_more true y o h = refl
    found_more false y o h = h

-- edges that stand in each list
pub found_after_put : (row : EdgeRow) (xs : List EdgeRow) →
    list_all (λ r. is_some (find (has_key r.key) (put_edge row xs))) xs ≡ true
found_after_put row xs =
    list_all_mono (λ r. is_some (find (has_key r.key) xs)) (λ r. is_some (find (has_key r.key) (put_edge row xs))) xs
    (λ y h. ap is_some (find-put_edge row y.key xs) ∙ still (same_key row.key y.key) (find (has_key y.key) xs) h) (all_found xs)
  where
    still : (b : Bool) (o : Option EdgeRow) → is_some o ≡ true → is_some (cond b (Some row) o) ≡ true
    still true o h = refl
    still false o h = h

pub found_after_take : (key : EdgeKey) (xs : List EdgeRow) →
    list_all (λ r. same_key r.key key || is_some (find (has_key r.key) (filter (is_other_edge key) xs))) xs ≡ true
found_after_take key xs =
    list_all_mono (λ r. is_some (find (has_key r.key) xs)) (λ r. same_key r.key key || is_some (find (has_key r.key) (filter (is_other_edge key) xs))) xs
    (λ y h. part (same_key y.key key) (same_key key y.key) (find (has_key y.key) xs) (find (has_key y.key) (filter (is_other_edge key) xs)) (find-filter_edge key y.key xs) (flips y.key) h) (all_found xs)
  where
    flips : (k : EdgeKey) → same_key key k ≡ true → same_key k key ≡ true
    flips k e = grind (arith, nat_tests, common_steps)

    part : (a b : Bool) (o f : Option EdgeRow) → f ≡ cond b None o → (b ≡ true → a ≡ true) → is_some o ≡ true → (a || is_some f) ≡ true
    part true b o f e g h = refl
    part false true o f e g h = absurd (cc (g refl))
    part false false o f e g h = ap is_some e ∙ h
