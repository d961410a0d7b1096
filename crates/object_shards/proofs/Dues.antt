-- The least due of rows after each change, and what it says of the rows that are due.
use Rattle.std.proofs.Common.{◌≡◌, ℕ, ◌+◌, ◌≤◌, ◌<◌, ◌≢◌, Bool, true, false, not, ◌&&◌, cond, eqb, ltb, leb, map, Option, Some, None, List, [], ◌∷◌, length, refl, sym, ap, ◌∙◌, arith}
use Rattle.std.proofs.lemmas.Bool.Decides.{nat_tests}
use Rattle.std.specs.Prelude.{find, filter}
use Rattle.delf_model.specs.declared.rows.ObjectRow.{ObjectRow}
use Rattle.delf_model.specs.Graph.{has_id, put_object, is_other_object, rewritten, objects_rise}
use Rattle.delf_model.specs.Store.{is_above, is_due_after}
use Rattle.object_shards.specs.Rows.{lesser_due, least_of, ids_within}
use Rattle.object_shards.proofs.Ids.{other_first, filter_none, none_above, rise_rest}
use Rattle.object_shards.proofs.Within.{first_of_within}

pub lesser_swap : (a b least : ℕ) → lesser_due a (lesser_due b least) ≡ lesser_due b (lesser_due a least)
lesser_swap a b least = grind (arith, nat_tests)

pub least_put : (row : ObjectRow) (xs : List ObjectRow) → find (has_id row.id) xs ≡ None → least_of (put_object row xs) ≡ lesser_due row.due (least_of xs)
least_put row [] none = refl
least_put row (x ∷ xs) none =
    let parts = other_first x xs row.id none in
    let other : eqb row.id x.id ≡ false = let differs = parts.0 in grind (arith, nat_tests) in
    go (ltb row.id x.id) (eqb row.id x.id) other (least_put row xs parts.1)
  where
    go : (before same : Bool) → same ≡ false → least_of (put_object row xs) ≡ lesser_due row.due (least_of xs) →
        least_of (cond before (row ∷ (x ∷ xs)) (cond same (row ∷ xs) (x ∷ put_object row xs))) ≡ lesser_due row.due (lesser_due x.due (least_of xs))
    go true same other rest = refl
    go false true other rest = absurd (cc other)
    go false false other rest = ap (λ (n : ℕ). lesser_due x.due n) rest ∙ lesser_swap x.due row.due (least_of xs)

same_due : (id at size : ℕ) (x : ObjectRow) → (rewritten id at size x).due ≡ x.due
same_due id at size x = go (eqb x.id id)
  where
    go : (b : Bool) → (cond b (record x { at = at; size = size }) x).due ≡ x.due
    go true = refl
    go false = refl

pub least_rewritten : (id at size : ℕ) (xs : List ObjectRow) → least_of (map (rewritten id at size) xs) ≡ least_of xs
least_rewritten id at size [] = refl
least_rewritten id at size (x ∷ xs) =
    ap (λ (n : ℕ). lesser_due n (least_of (map (rewritten id at size) xs))) (same_due id at size x) ∙
    ap (λ (n : ℕ). lesser_due x.due n) (least_rewritten id at size xs)

least_taken : (id : ℕ) (xs : List ObjectRow) (row : ObjectRow) → objects_rise xs ≡ true → find (has_id id) xs ≡ Some row →
    least_of xs ≡ lesser_due row.due (least_of (filter (is_other_object id) xs))
least_taken id [] row rise is = absurd (cc is)
least_taken id (x ∷ xs) row rise is = go (eqb x.id id) refl is (λ later. least_taken id xs row (rise_rest x.id xs rise) later)
  where
    go : (b : Bool) → eqb x.id id ≡ b → cond b (Some x) (find (has_id id) xs) ≡ Some row →
        (find (has_id id) xs ≡ Some row → least_of xs ≡ lesser_due row.due (least_of (filter (is_other_object id) xs))) →
        lesser_due x.due (least_of xs) ≡ lesser_due row.due (least_of (cond (not b) (x ∷ filter (is_other_object id) xs) (filter (is_other_object id) xs)))
    go true same found rest =
        let this : x ≡ row = cc found in
        let under : id ≤ x.id = grind (arith, nat_tests) in
        ap (λ (r : ObjectRow). lesser_due r.due (least_of xs)) this ∙
        ap (λ (ys : List ObjectRow). lesser_due row.due (least_of ys)) (sym (filter_none id xs (none_above x.id id xs rise under)))
    go false other found rest =
        ap (λ (n : ℕ). lesser_due x.due n) (rest found) ∙ lesser_swap x.due row.due (least_of (filter (is_other_object id) xs))

lesser_other : (due least : ℕ) → due ≢ lesser_due due least → lesser_due due least ≡ least
lesser_other due least differs = grind (arith, nat_tests)

-- a row that had not the least due leaves it
pub least_kept : (id : ℕ) (xs : List ObjectRow) (row : ObjectRow) → objects_rise xs ≡ true → find (has_id id) xs ≡ Some row → row.due ≢ least_of xs →
    least_of xs ≡ least_of (filter (is_other_object id) xs)
least_kept id xs row rise is differs =
    let taken = least_taken id xs row rise is in
    taken ∙ lesser_other row.due (least_of (filter (is_other_object id) xs)) (λ same. differs (same ∙ sym taken))

-- no row is due before the least due

not_due : (moment : ℕ) (low : Option ℕ) (x : ObjectRow) (least : ℕ) → moment < lesser_due x.due least → (is_due_after moment low x ≡ false) × (moment < least)
not_due moment low x least early =
    let late : moment < least = grind (arith, nat_tests) in
    (go (is_above low x.id) late, late)
  where
    go : (b : Bool) → moment < least → (b && ltb 0 x.due && leb x.due moment) ≡ false
    go true late = grind (arith, nat_tests)
    go false late = refl

pub none_due : (moment : ℕ) (low : Option ℕ) (xs : List ObjectRow) → moment < least_of xs → find (is_due_after moment low) xs ≡ None
none_due moment low [] early = refl
none_due moment low (x ∷ xs) early =
    let parts = not_due moment low x (least_of xs) early in
    ap (λ (b : Bool). cond b (Some x) (find (is_due_after moment low) xs)) parts.0 ∙ none_due moment low xs parts.1

-- no row up to an id comes after it

pub none_after : (moment id low m : ℕ) (xs : List ObjectRow) → m ≤ id → ids_within low m xs ≡ true → find (is_due_after moment (Some id)) xs ≡ None
none_after moment id low m [] h w = refl
none_after moment id low m (x ∷ xs) h w =
    let first = first_of_within low m x xs w in
    let below = first.below in
    let under : ltb id x.id ≡ false = grind (arith, nat_tests) in
    ap (λ (b : Bool). cond (b && ltb 0 x.due && leb x.due moment) (Some x) (find (is_due_after moment (Some id)) xs)) under ∙
    none_after moment id low m xs h first.rest

-- at most one row more

pub length-put_object : (row : ObjectRow) (xs : List ObjectRow) → length (put_object row xs) ≤ length xs + 1
length-put_object row [] = omega arith
length-put_object row (x ∷ xs) = go (ltb row.id x.id) (eqb row.id x.id) (length-put_object row xs)
  where
    go : (before same : Bool) → length (put_object row xs) ≤ length xs + 1 →
        length (cond before (row ∷ (x ∷ xs)) (cond same (row ∷ xs) (x ∷ put_object row xs))) ≤ length (x ∷ xs) + 1
    go true same rest = omega arith
    go false true rest = omega arith
    go false false rest = omega arith

pub length-filter_object : (id : ℕ) (xs : List ObjectRow) → length (filter (is_other_object id) xs) ≤ length xs
length-filter_object id [] = omega arith
length-filter_object id (x ∷ xs) = go (is_other_object id x) (length-filter_object id xs)
  where
    go : (b : Bool) → length (filter (is_other_object id) xs) ≤ length xs →
        length (cond b (x ∷ filter (is_other_object id) xs) (filter (is_other_object id) xs)) ≤ length (x ∷ xs)
    go true rest = omega arith
    go false rest = omega arith
