-- Sums over the objects and edges of a graph after a change.
use Rattle.std.proofs.Common.{◌≡◌, ℕ, ◌+◌, ◌<◌, ◌≤◌, Bool, true, false, cond, not, ◌&&◌, ◌||◌, List, [], ◌∷◌, map, Option, Some, None, refl, ◌∙◌, ap, arith, ltb, eqb}
use Rattle.std.specs.Prelude.{find, filter, sum_by}
use Rattle.std.proofs.lemmas.Bool.Decides.{nat_tests}
use Rattle.std.proofs.lemmas.Grind.{common_steps}
use Rattle.std.proofs.lemmas.List.Sums.{sum_by-cons}
use Rattle.delf_model.specs.declared.rows.ObjectRow.{ObjectRow}
use Rattle.delf_model.specs.declared.rows.EdgeKey.{EdgeKey}
use Rattle.delf_model.specs.declared.rows.EdgeRow.{EdgeRow}
use Rattle.delf_model.specs.Graph.{has_id, has_key, same_key, put_object, put_edge, is_other_object, is_other_edge, rewritten, key_before, rises_after, objects_rise, keys_rise_after, edges_rise}

-- sums over the objects of a graph

-- a row put before, in place of, or behind the first one
pub sum_by-put_case : {R : Type 0} (f : R → ℕ) (row x : R) (xs put : List R) (a b : Bool) → (b ≡ true → ⊥) →
    sum_by f put ≡ sum_by f xs + f row → sum_by f (cond a (row ∷ (x ∷ xs)) (cond b (row ∷ xs) (x ∷ put))) ≡ sum_by f (x ∷ xs) + f row
sum_by-put_case f row x xs put true b n e = omega (arith, sum_by-cons f row (x ∷ xs), sum_by-cons f x xs)
sum_by-put_case f row x xs put false true n e = absurd (n refl)
sum_by-put_case f row x xs put false false n e = omega (arith, sum_by-cons f x put, sum_by-cons f x xs)

found_not_none : {R : Type 0} (b : Bool) (x : R) (r : Option R) → cond b (Some x) r ≡ None → b ≡ true → ⊥
found_not_none true x r e h = absurd (cc e)
found_not_none false x r e h = absurd (cc h)

found_rest : {R : Type 0} (b : Bool) (x : R) (r : Option R) → cond b (Some x) r ≡ None → r ≡ None
found_rest true x r e = absurd (cc e)
found_rest false x r e = e

eqb_flip : (a b : ℕ) → eqb a b ≡ true → eqb b a ≡ true
eqb_flip a b e = grind (arith, nat_tests)

pub sum_by-put_object : (f : ObjectRow → ℕ) (row : ObjectRow) (xs : List ObjectRow) → find (has_id row.id) xs ≡ None →
    sum_by f (put_object row xs) ≡ sum_by f xs + f row
sum_by-put_object f row [] e = refl
sum_by-put_object f row (x ∷ xs) e =
    sum_by-put_case f row x xs (put_object row xs) (ltb row.id x.id) (eqb row.id x.id)
    (λ h. found_not_none (eqb x.id row.id) x (find (has_id row.id) xs) e (eqb_flip row.id x.id h))
    (sum_by-put_object f row xs (found_rest (eqb x.id row.id) x (find (has_id row.id) xs) e))

-- no later row has the id
pub none_after : (low id : ℕ) (xs : List ObjectRow) → rises_after low xs ≡ true → id ≤ low → find (has_id id) xs ≡ None
none_after low id [] e h = refl
none_after low id (x ∷ xs) e h = grind (arith, nat_tests, common_steps, none_after x.id id xs)

pub sum_by-filter_absent : (f : ObjectRow → ℕ) (id : ℕ) (xs : List ObjectRow) → find (has_id id) xs ≡ None →
    sum_by f (filter (is_other_object id) xs) ≡ sum_by f xs
sum_by-filter_absent f id [] e = refl
sum_by-filter_absent f id (x ∷ xs) e = grind (arith, nat_tests, sum_by-cons, sum_by-filter_absent f id xs)

pub rises_tail : (low : ℕ) (xs : List ObjectRow) → rises_after low xs ≡ true → objects_rise xs ≡ true
rises_tail low [] e = refl
rises_tail low (x ∷ xs) e = grind (arith, nat_tests, common_steps)

pub sum_by-filter_object : (f : ObjectRow → ℕ) (id : ℕ) (row : ObjectRow) (xs : List ObjectRow) → objects_rise xs ≡ true →
    find (has_id id) xs ≡ Some row → sum_by f (filter (is_other_object id) xs) + f row ≡ sum_by f xs
sum_by-filter_object f id row [] o e = grind (arith, nat_tests, common_steps)
sum_by-filter_object f id row (x ∷ xs) o e =
    grind (arith, nat_tests, sum_by-cons, sum_by-filter_object f id row xs, none_after x.id id xs, sum_by-filter_absent f id xs, rises_tail x.id xs)

pub sum_by-same : {R : Type 0} (f g : R → ℕ) (xs : List R) → ((x : R) → f x ≡ g x) → sum_by f xs ≡ sum_by g xs
sum_by-same f g [] e = refl
sum_by-same f g (x ∷ xs) e = omega (arith, sum_by-cons f x xs, sum_by-cons g x xs, sum_by-same f g xs e, e x)

pub sum_by-same_after : (f g : ObjectRow → ℕ) (low : ℕ) (xs : List ObjectRow) → rises_after low xs ≡ true →
    ((x : ObjectRow) → low < x.id → f x ≡ g x) → sum_by f xs ≡ sum_by g xs
sum_by-same_after f g low [] r e = refl
sum_by-same_after f g low (x ∷ xs) r e =
    grind (arith, nat_tests, sum_by-cons f x xs, sum_by-cons g x xs, sum_by-same_after f g x.id xs, e)

pub sum_by-rewritten : (f : ObjectRow → ℕ) (id at size : ℕ) (xs : List ObjectRow) →
    ((x : ObjectRow) → f (rewritten id at size x) ≡ f x) → sum_by f (map (rewritten id at size) xs) ≡ sum_by f xs
sum_by-rewritten f id at size [] e = refl
sum_by-rewritten f id at size (x ∷ xs) e =
    omega (arith, sum_by-cons f x xs, sum_by-cons f (rewritten id at size x) (map (rewritten id at size) xs), sum_by-rewritten f id at size xs e, e x)

-- sums that differ at one id
pub sum_by-absent : (f g : ObjectRow → ℕ) (id : ℕ) (xs : List ObjectRow) → ((x : ObjectRow) → (x.id ≡ id → ⊥) → f x ≡ g x) →
    find (has_id id) xs ≡ None → sum_by f xs ≡ sum_by g xs
sum_by-absent f g id [] e n = refl
sum_by-absent f g id (x ∷ xs) e n =
    grind (arith, nat_tests, sum_by-cons f x xs, sum_by-cons g x xs, sum_by-absent f g id xs e, e x)

pub sum_by-change : (f g : ObjectRow → ℕ) (id : ℕ) (row : ObjectRow) (xs : List ObjectRow) → objects_rise xs ≡ true →
    ((x : ObjectRow) → (x.id ≡ id → ⊥) → f x ≡ g x) → find (has_id id) xs ≡ Some row →
    sum_by g xs + f row ≡ sum_by f xs + g row
sum_by-change f g id row [] o e n = grind (arith, nat_tests, common_steps)
sum_by-change f g id row (x ∷ xs) o e n =
    grind (arith, nat_tests, sum_by-cons f x xs, sum_by-cons g x xs, sum_by-change f g id row xs, sum_by-absent f g id xs e, none_after x.id id xs, rises_tail x.id xs, e x)

-- sums over the edges of a graph

pub same_key_flip : (a b : EdgeKey) → same_key a b ≡ true → same_key b a ≡ true
same_key_flip a b e = grind (arith, nat_tests, common_steps)

pub sum_by-put_edge : (f : EdgeRow → ℕ) (row : EdgeRow) (xs : List EdgeRow) → find (has_key row.key) xs ≡ None →
    sum_by f (put_edge row xs) ≡ sum_by f xs + f row
sum_by-put_edge f row [] e = refl
sum_by-put_edge f row (x ∷ xs) e =
    sum_by-put_case f row x xs (put_edge row xs) (key_before row.key x.key) (same_key row.key x.key)
    (λ h. found_not_none (same_key x.key row.key) x (find (has_key row.key) xs) e (same_key_flip row.key x.key h))
    (sum_by-put_edge f row xs (found_rest (same_key x.key row.key) x (find (has_key row.key) xs) e))

pub before_along : (a b c : EdgeKey) → (key_before a b || same_key a b) ≡ true → key_before b c ≡ true → key_before a c ≡ true
before_along a b c h k = grind (arith, nat_tests, common_steps)

pub before_apart : (a b : EdgeKey) → key_before a b ≡ true → same_key b a ≡ false
before_apart a b h = grind (arith, nat_tests, common_steps)

or_left : (a b : Bool) → a ≡ true → (a || b) ≡ true
or_left true b h = refl
or_left false b h = absurd (cc h)

both : (a b : Bool) → (a && b) ≡ true → (a ≡ true) × (b ≡ true)
both true b h = (refl, h)
both false b h = absurd (cc h)

pub none_key_after : (low key : EdgeKey) (xs : List EdgeRow) → keys_rise_after low xs ≡ true →
    (key_before key low || same_key key low) ≡ true → find (has_key key) xs ≡ None
none_key_after low key [] r h = refl
none_key_after low key (x ∷ xs) r h =
    let parts = both (key_before low x.key) (keys_rise_after x.key xs) r in
    let below : key_before key x.key ≡ true = before_along key low x.key h parts.0 in
    let apart : same_key x.key key ≡ false = before_apart key x.key below in
    let rest : find (has_key key) xs ≡ None = none_key_after x.key key xs parts.1 (or_left (key_before key x.key) (same_key key x.key) below) in
    ap (λ (b : Bool). cond b (Some x) (find (has_key key) xs)) apart ∙ rest

pub sum_by-filter_no_edge : (f : EdgeRow → ℕ) (key : EdgeKey) (xs : List EdgeRow) → find (has_key key) xs ≡ None →
    sum_by f (filter (is_other_edge key) xs) ≡ sum_by f xs
sum_by-filter_no_edge f key [] e = refl
sum_by-filter_no_edge f key (x ∷ xs) e = go (same_key x.key key) (sum_by-filter_no_edge f key xs) e
  where
    go : (b : Bool) → (find (has_key key) xs ≡ None → sum_by f (filter (is_other_edge key) xs) ≡ sum_by f xs) →
        cond b (Some x) (find (has_key key) xs) ≡ None →
        sum_by f (cond (not b) (x ∷ filter (is_other_edge key) xs) (filter (is_other_edge key) xs)) ≡ sum_by f (x ∷ xs)
    go true more h = absurd (cc h)
    go false more h = omega (arith, sum_by-cons f x (filter (is_other_edge key) xs), sum_by-cons f x xs, more h)

pub keys_tail : (low : EdgeKey) (xs : List EdgeRow) → keys_rise_after low xs ≡ true → edges_rise xs ≡ true
keys_tail low [] e = refl
keys_tail low (x ∷ xs) e = (both (key_before low x.key) (keys_rise_after x.key xs) e).1

some_is : {R : Type 0} (a b : R) → Some a ≡ Some b → a ≡ b
some_is a b e = cc e

or_right : (a b : Bool) → b ≡ true → (a || b) ≡ true
or_right true b h = refl
or_right false b h = h

pub sum_by-filter_edge : (f : EdgeRow → ℕ) (key : EdgeKey) (row : EdgeRow) (xs : List EdgeRow) → edges_rise xs ≡ true →
    find (has_key key) xs ≡ Some row → sum_by f (filter (is_other_edge key) xs) + f row ≡ sum_by f xs
sum_by-filter_edge f key row [] o e = absurd (cc e)
sum_by-filter_edge f key row (x ∷ xs) o e =
    go (same_key x.key key) (sum_by-filter_edge f key row xs (keys_tail x.key xs o)) refl e
  where
    go : (b : Bool) →
        (find (has_key key) xs ≡ Some row → sum_by f (filter (is_other_edge key) xs) + f row ≡ sum_by f xs) →
        same_key x.key key ≡ b → cond b (Some x) (find (has_key key) xs) ≡ Some row →
        sum_by f (cond (not b) (x ∷ filter (is_other_edge key) xs) (filter (is_other_edge key) xs)) + f row ≡ sum_by f (x ∷ xs)
    go true more s h =
        let none : find (has_key key) xs ≡ None = none_key_after x.key key xs o (or_right (key_before key x.key) (same_key key x.key) (same_key_flip x.key key s)) in
        let at : x ≡ row = some_is x row h in
        omega (arith, sum_by-cons f x xs, sum_by-filter_no_edge f key xs none, ap f at)
    go false more s h = omega (arith, sum_by-cons f x (filter (is_other_edge key) xs), sum_by-cons f x xs, more h)
