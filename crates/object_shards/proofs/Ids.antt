-- Rows by rising id: the place of an id, and what keeps the order.
use Rattle.std.proofs.Common.{◌≡◌, ℕ, zero, suc, ◌≤◌, ◌<◌, Bool, true, false, not, cond, eqb, ltb, map, Option, Some, None, List, [], ◌∷◌, length, get_or, take, drop, refl, sym, ap, subst, ◌∙◌, arith}
use Rattle.std.proofs.lemmas.Bool.Decides.{nat_tests}
use Rattle.std.proofs.lemmas.Bool.{and_parts, and_from}
use Rattle.std.proofs.lemmas.Grind.{common_steps}
use Rattle.std.specs.Prelude.{find, filter, slice_get}
use Rattle.std.specs.List.{insert, remove}
use Rattle.std.proofs.Math.ListN.{set}
use Rattle.delf_model.specs.declared.rows.ObjectRow.{ObjectRow}
use Rattle.delf_model.specs.Graph.{has_id, put_object, is_other_object, rewritten, rises_after, objects_rise}
use Rattle.object_shards.specs.Rows.{place_in}

pub rise_rest : (low : ℕ) (rows : List ObjectRow) → rises_after low rows ≡ true → objects_rise rows ≡ true
rise_rest low [] rise = refl
rise_rest low (x ∷ xs) rise = let parts = and_parts (ltb low x.id) (rises_after x.id xs) rise in parts.1

above_all : (low : ℕ) (rows : List ObjectRow) (k : ℕ) (row : ObjectRow) → rises_after low rows ≡ true →
    k < length rows → row ≡ get_or rows k row → low < row.id
above_all low [] k row rise below is = absurd (omega arith)
above_all low (x ∷ xs) zero row rise below is =
    let parts = and_parts (ltb low x.id) (rises_after x.id xs) rise in
    let same : row.id ≡ x.id = ap (λ (r : ObjectRow). r.id) is in grind (arith, nat_tests, parts.0)
above_all low (x ∷ xs) (suc k) row rise below is =
    let parts = and_parts (ltb low x.id) (rises_after x.id xs) rise in
    let first : low < x.id = grind (arith, nat_tests, parts.0) in
    let more : x.id < row.id = above_all x.id xs k row parts.1 (omega arith) is in omega arith

pub place_above : (rows : List ObjectRow) (id k : ℕ) (row : ObjectRow) → objects_rise rows ≡ true → k < length rows →
    row ≡ get_or rows k row → row.id < id → k < place_in id rows
place_above [] id k row rise below is less = absurd (omega arith)
place_above (x ∷ xs) id zero row rise below is less =
    let same : row.id ≡ x.id = ap (λ (r : ObjectRow). r.id) is in grind (arith, nat_tests)
place_above (x ∷ xs) id (suc k) row rise below is less =
    let first : x.id < row.id = above_all x.id xs k row rise (omega arith) is in
    let more : k < place_in id xs = place_above xs id k row (rise_rest x.id xs rise) (omega arith) is less in
    grind (arith, nat_tests)

pub place_below : (rows : List ObjectRow) (id k : ℕ) (row : ObjectRow) → k < length rows →
    row ≡ get_or rows k row → id ≤ row.id → place_in id rows ≤ k
place_below [] id k row below is more = absurd (omega arith)
place_below (x ∷ xs) id zero row below is more =
    let same : row.id ≡ x.id = ap (λ (r : ObjectRow). r.id) is in grind (arith, nat_tests)
place_below (x ∷ xs) id (suc k) row below is more =
    let rest : place_in id xs ≤ k = place_below xs id k row (omega arith) is more in grind (arith, nat_tests)

pub place_within : (rows : List ObjectRow) (id : ℕ) → place_in id rows ≤ length rows
place_within [] id = omega arith
place_within (x ∷ xs) id = grind (arith, nat_tests, place_within xs id)

pub none_above : (low id : ℕ) (rows : List ObjectRow) → rises_after low rows ≡ true → id ≤ low → find (has_id id) rows ≡ None
none_above low id [] rise under = refl
none_above low id (x ∷ xs) rise under =
    let parts = and_parts (ltb low x.id) (rises_after x.id xs) rise in
    let first : low < x.id = grind (arith, nat_tests, parts.0) in
    let rest : find (has_id id) xs ≡ None = none_above x.id id xs parts.1 (omega arith) in
    grind (arith, nat_tests)

found_at : ℕ → Option ObjectRow → Option ObjectRow
found_at id None = None
found_at id (Some row) = cond (eqb row.id id) (Some row) None

find-place : (rows : List ObjectRow) (id : ℕ) → objects_rise rows ≡ true →
    find (has_id id) rows ≡ found_at id (slice_get rows (place_in id rows))
unfolding found_at
find-place [] id rise = refl
find-place (x ∷ xs) id rise =
    let rest : find (has_id id) xs ≡ found_at id (slice_get xs (place_in id xs)) = find-place xs id (rise_rest x.id xs rise) in
    let above : id ≤ x.id → find (has_id id) xs ≡ None = λ under. none_above x.id id xs rise under in
    grind (arith, nat_tests)

pub got : (rows : List ObjectRow) (k : ℕ) (row : ObjectRow) → k < length rows → row ≡ get_or rows k row → slice_get rows k ≡ Some row
got [] k row below is = absurd (omega arith)
got (x ∷ xs) zero row below is = ap (λ (r : ObjectRow). Some r) (sym is)
got (x ∷ xs) (suc k) row below is = got xs k row (omega arith) is

past : (rows : List ObjectRow) (k : ℕ) → length rows ≤ k → slice_get rows k ≡ None
past [] k over = refl
past (x ∷ xs) zero over = absurd (omega arith)
past (x ∷ xs) (suc k) over = past xs k (omega arith)

pub find_past : (rows : List ObjectRow) (id k : ℕ) → objects_rise rows ≡ true → k ≡ place_in id rows → length rows ≤ k →
    None ≡ find (has_id id) rows
unfolding found_at
find_past rows id k rise place over =
    let there : slice_get rows (place_in id rows) ≡ None = past rows (place_in id rows) (omega arith) in
    sym (find-place rows id rise ∙ ap (λ (found : Option ObjectRow). found_at id found) there)

pub find_found : (rows : List ObjectRow) (id k : ℕ) (row : ObjectRow) → objects_rise rows ≡ true → k ≡ place_in id rows →
    k < length rows → row ≡ get_or rows k row → row.id ≡ id → Some row ≡ find (has_id id) rows
unfolding found_at
find_found rows id k row rise place below is same =
    let there : slice_get rows (place_in id rows) ≡ Some row = subst (λ (n : ℕ). slice_get rows n ≡ Some row) place (got rows k row below is) in
    let yes : eqb row.id id ≡ true = grind (arith, nat_tests) in
    sym (find-place rows id rise ∙ ap (λ (found : Option ObjectRow). found_at id found) there
    ∙ ap (λ (b : Bool). cond b (Some row) None) yes)

pub find_other : (rows : List ObjectRow) (id k : ℕ) (row : ObjectRow) → objects_rise rows ≡ true → k ≡ place_in id rows →
    k < length rows → row ≡ get_or rows k row → (row.id ≡ id → ⊥) → None ≡ find (has_id id) rows
unfolding found_at
find_other rows id k row rise place below is other =
    let there : slice_get rows (place_in id rows) ≡ Some row = subst (λ (n : ℕ). slice_get rows n ≡ Some row) place (got rows k row below is) in
    let no : eqb row.id id ≡ false = grind (arith, nat_tests) in
    sym (find-place rows id rise ∙ ap (λ (found : Option ObjectRow). found_at id found) there
    ∙ ap (λ (b : Bool). cond b (Some row) None) no)

-- a row that is put at its place

first_cases : (b : Bool) (x : ObjectRow) (rest : Option ObjectRow) → cond b (Some x) rest ≡ None → (b ≡ false) × (rest ≡ None)
first_cases true x rest none = cc
first_cases false x rest none = (refl, none)

pub other_first : (x : ObjectRow) (xs : List ObjectRow) (id : ℕ) → find (has_id id) (x ∷ xs) ≡ None →
    (eqb x.id id ≡ false) × (find (has_id id) xs ≡ None)
other_first x xs id none = first_cases (eqb x.id id) x (find (has_id id) xs) none

pub insert_place : (row : ObjectRow) (rows : List ObjectRow) → find (has_id row.id) rows ≡ None →
    insert rows (place_in row.id rows) row ≡ put_object row rows
insert_place row [] none = refl
insert_place row (x ∷ xs) none =
    let parts = other_first x xs row.id none in
    let rest : insert xs (place_in row.id xs) row ≡ put_object row xs = insert_place row xs parts.1 in
    let other = parts.0 in
    grind (arith, nat_tests)

-- ids still rise after a change

rises_wider : (low high : ℕ) (xs : List ObjectRow) → low ≤ high → rises_after high xs ≡ true → rises_after low xs ≡ true
rises_wider low high [] l h = refl
rises_wider low high (x ∷ xs) l h = grind (arith, nat_tests, common_steps)

rises_put : (row : ObjectRow) (low : ℕ) (xs : List ObjectRow) → low < row.id → rises_after low xs ≡ true → rises_after low (put_object row xs) ≡ true
rises_put row low [] l h = grind (arith, nat_tests, common_steps)
rises_put row low (x ∷ xs) l h = grind (arith, nat_tests, common_steps, rises_put row x.id xs)

pub objects_rise_put : (row : ObjectRow) (xs : List ObjectRow) → objects_rise xs ≡ true → objects_rise (put_object row xs) ≡ true
objects_rise_put row [] h = refl
objects_rise_put row (x ∷ xs) h = grind (arith, nat_tests, common_steps, rises_put row x.id xs)

rises_cond : (b : Bool) (low : ℕ) (xs ys : List ObjectRow) → rises_after low xs ≡ true → rises_after low ys ≡ true → rises_after low (cond b xs ys) ≡ true
rises_cond true low xs ys one other = one
rises_cond false low xs ys one other = other

rise_cond : (b : Bool) (xs ys : List ObjectRow) → objects_rise xs ≡ true → objects_rise ys ≡ true → objects_rise (cond b xs ys) ≡ true
rise_cond true xs ys one other = one
rise_cond false xs ys one other = other

rises_filter : (id low : ℕ) (xs : List ObjectRow) → rises_after low xs ≡ true → rises_after low (filter (is_other_object id) xs) ≡ true
rises_filter id low [] h = refl
rises_filter id low (x ∷ xs) h =
    let parts = and_parts (ltb low x.id) (rises_after x.id xs) h in
    let under : low < x.id = grind (arith, nat_tests, parts.0) in
    rises_cond (is_other_object id x) low (x ∷ filter (is_other_object id) xs) (filter (is_other_object id) xs)
    (and_from (ltb low x.id) (rises_after x.id (filter (is_other_object id) xs)) parts.0 (rises_filter id x.id xs parts.1))
    (rises_filter id low xs (rises_wider low x.id xs (omega arith) parts.1))

pub objects_rise_filter : (id : ℕ) (xs : List ObjectRow) → objects_rise xs ≡ true → objects_rise (filter (is_other_object id) xs) ≡ true
objects_rise_filter id [] h = refl
objects_rise_filter id (x ∷ xs) h =
    rise_cond (is_other_object id x) (x ∷ filter (is_other_object id) xs) (filter (is_other_object id) xs)
    (rises_filter id x.id xs h) (rise_rest x.id (filter (is_other_object id) xs) (rises_filter id x.id xs h))

pub same_id : (id at size : ℕ) (x : ObjectRow) → (rewritten id at size x).id ≡ x.id
same_id id at size x = go (eqb x.id id)
  where
    go : (b : Bool) → (cond b (record x { at = at; size = size }) x).id ≡ x.id
    go true = refl
    go false = refl

rises_rewritten : (id at size low : ℕ) (xs : List ObjectRow) → rises_after low xs ≡ true → rises_after low (map (rewritten id at size) xs) ≡ true
rises_rewritten id at size low [] h = refl
rises_rewritten id at size low (x ∷ xs) h =
    let parts = and_parts (ltb low x.id) (rises_after x.id xs) h in
    let same = same_id id at size x in
    and_from (ltb low (rewritten id at size x).id) (rises_after (rewritten id at size x).id (map (rewritten id at size) xs))
    (ap (λ (n : ℕ). ltb low n) same ∙ parts.0)
    (ap (λ (n : ℕ). rises_after n (map (rewritten id at size) xs)) same ∙ rises_rewritten id at size x.id xs parts.1)

pub objects_rise_rewritten : (id at size : ℕ) (xs : List ObjectRow) → objects_rise xs ≡ true → objects_rise (map (rewritten id at size) xs) ≡ true
objects_rise_rewritten id at size [] h = refl
objects_rise_rewritten id at size (x ∷ xs) h =
    ap (λ (n : ℕ). rises_after n (map (rewritten id at size) xs)) (same_id id at size x) ∙ rises_rewritten id at size x.id xs h

-- the row that a change of payload gives

pub rewritten_hit : (id at size other : ℕ) (x : ObjectRow) → x.id ≡ other → other ≡ id → record x { at = at; size = size } ≡ rewritten id at size x
rewritten_hit id at size other x is same =
    let hit : eqb x.id id ≡ true = grind (arith, nat_tests) in
    let new : ObjectRow = record x { at = at; size = size } in
    sym (ap (λ (b : Bool). cond b new x) hit)

pub rewritten_miss : (id at size : ℕ) (x : ObjectRow) → (x.id ≡ id → ⊥) → x ≡ rewritten id at size x
rewritten_miss id at size x differs =
    let miss : eqb x.id id ≡ false = grind (arith, nat_tests) in
    let new : ObjectRow = record x { at = at; size = size } in
    sym (ap (λ (b : Bool). cond b new x) miss)

pub place_of_put : (row : ObjectRow) (rows new : List ObjectRow) (place : ℕ) → place ≡ place_in row.id rows → find (has_id row.id) rows ≡ None →
    new ≡ insert rows place row → new ≡ put_object row rows
place_of_put row rows new place at none is =
    is ∙ ap (λ (n : ℕ). insert rows n row) at ∙ insert_place row rows none

-- rows none of which has the id

pub map_none : (id at size : ℕ) (xs : List ObjectRow) → find (has_id id) xs ≡ None → map (rewritten id at size) xs ≡ xs
map_none id at size [] none = refl
map_none id at size (x ∷ xs) none =
    let parts = other_first x xs id none in
    let first : x ≡ rewritten id at size x = rewritten_miss id at size x (λ same. let differs = parts.0 in grind (arith, nat_tests)) in
    ap (λ (y : ObjectRow). y ∷ map (rewritten id at size) xs) (sym first) ∙ ap (λ (ys : List ObjectRow). x ∷ ys) (map_none id at size xs parts.1)

pub filter_none : (id : ℕ) (xs : List ObjectRow) → find (has_id id) xs ≡ None → filter (is_other_object id) xs ≡ xs
filter_none id [] none = refl
filter_none id (x ∷ xs) none =
    let parts = other_first x xs id none in
    ap (λ (b : Bool). cond (not b) (x ∷ filter (is_other_object id) xs) (filter (is_other_object id) xs)) parts.0 ∙
    ap (λ (ys : List ObjectRow). x ∷ ys) (filter_none id xs parts.1)

-- the row at the place of its id

data Found (id : ℕ) (x row : ObjectRow) (xs : List ObjectRow) : Type 0 where
  Here : x ≡ row → ltb x.id id ≡ false → Found id x row xs
  Later : ltb x.id id ≡ true → slice_get xs (place_in id xs) ≡ Some row → Found id x row xs

found_where : (id : ℕ) (x row : ObjectRow) (xs : List ObjectRow) → slice_get (x ∷ xs) (place_in id (x ∷ xs)) ≡ Some row → Found id x row xs
found_where id x row xs is = go (ltb x.id id) refl is
  where
    go : (b : Bool) → ltb x.id id ≡ b → slice_get (x ∷ xs) (cond b (suc (place_in id xs)) 0) ≡ Some row → Found id x row xs
    go true before there = Later before there
    go false before there = Here (cc there) before

pub set_place : (id at size : ℕ) (rows : List ObjectRow) (row : ObjectRow) → objects_rise rows ≡ true → slice_get rows (place_in id rows) ≡ Some row →
    row.id ≡ id → set rows (place_in id rows) (record row { at = at; size = size }) ≡ map (rewritten id at size) rows
set_place id at size [] row rise there same = absurd (cc there)
set_place id at size (x ∷ xs) row rise there same =
    go (found_where id x row xs there) (λ later. set_place id at size xs row (rise_rest x.id xs rise) later same)
  where
    go : Found id x row xs → (slice_get xs (place_in id xs) ≡ Some row → set xs (place_in id xs) (record row { at = at; size = size }) ≡ map (rewritten id at size) xs) →
        set (x ∷ xs) (place_in id (x ∷ xs)) (record row { at = at; size = size }) ≡ map (rewritten id at size) (x ∷ xs)
    go (Here is before) more =
        let new : ObjectRow = record row { at = at; size = size } in
        let hit : record x { at = at; size = size } ≡ rewritten id at size x = rewritten_hit id at size x.id x refl (ap (λ (r : ObjectRow). r.id) is ∙ same) in
        let first : new ≡ rewritten id at size x = ap (λ (r : ObjectRow). let y : ObjectRow = record r { at = at; size = size } in y) (sym is) ∙ hit in
        let under : id ≤ x.id = let n = ap (λ (r : ObjectRow). r.id) is in omega arith in
        ap (λ (b : Bool). set (x ∷ xs) (cond b (suc (place_in id xs)) 0) new) before ∙
        ap (λ (y : ObjectRow). y ∷ xs) first ∙
        ap (λ (ys : List ObjectRow). rewritten id at size x ∷ ys) (sym (map_none id at size xs (none_above x.id id xs rise under)))
    go (Later before later) more =
        let new : ObjectRow = record row { at = at; size = size } in
        let miss : x ≡ rewritten id at size x = rewritten_miss id at size x (λ eq. grind (arith, nat_tests)) in
        ap (λ (b : Bool). set (x ∷ xs) (cond b (suc (place_in id xs)) 0) new) before ∙
        ap (λ (ys : List ObjectRow). x ∷ ys) (more later) ∙
        ap (λ (y : ObjectRow). y ∷ map (rewritten id at size) xs) miss

pub remove_place : (id : ℕ) (rows : List ObjectRow) (row : ObjectRow) → objects_rise rows ≡ true → slice_get rows (place_in id rows) ≡ Some row →
    row.id ≡ id → remove rows (place_in id rows) ≡ filter (is_other_object id) rows
remove_place id [] row rise there same = absurd (cc there)
remove_place id (x ∷ xs) row rise there same =
    go (found_where id x row xs there) (λ later. remove_place id xs row (rise_rest x.id xs rise) later same)
  where
    go : Found id x row xs → (slice_get xs (place_in id xs) ≡ Some row → remove xs (place_in id xs) ≡ filter (is_other_object id) xs) →
        remove (x ∷ xs) (place_in id (x ∷ xs)) ≡ filter (is_other_object id) (x ∷ xs)
    go (Here is before) more =
        let this : eqb x.id id ≡ true = let n = ap (λ (r : ObjectRow). r.id) is in grind (arith, nat_tests) in
        let under : id ≤ x.id = let n = ap (λ (r : ObjectRow). r.id) is in omega arith in
        ap (λ (b : Bool). remove (x ∷ xs) (cond b (suc (place_in id xs)) 0)) before ∙
        sym (ap (λ (b : Bool). cond (not b) (x ∷ filter (is_other_object id) xs) (filter (is_other_object id) xs)) this ∙
        filter_none id xs (none_above x.id id xs rise under))
    go (Later before later) more =
        let this : eqb x.id id ≡ false = grind (arith, nat_tests) in
        ap (λ (b : Bool). remove (x ∷ xs) (cond b (suc (place_in id xs)) 0)) before ∙
        ap (λ (ys : List ObjectRow). x ∷ ys) (more later) ∙
        sym (ap (λ (b : Bool). cond (not b) (x ∷ filter (is_other_object id) xs) (filter (is_other_object id) xs)) this)

pub at_place : (rows : List ObjectRow) (id k : ℕ) (row : ObjectRow) → k ≡ place_in id rows → k < length rows → row ≡ get_or rows k row →
    slice_get rows (place_in id rows) ≡ Some row
at_place rows id k row place below is = subst (λ (n : ℕ). slice_get rows n ≡ Some row) place (got rows k row below is)

rises_take : (low k : ℕ) (xs : List ObjectRow) → rises_after low xs ≡ true → rises_after low (take k xs) ≡ true
rises_take low zero [] h = refl
rises_take low (suc k) [] h = refl
rises_take low zero (x ∷ xs) h = refl
rises_take low (suc k) (x ∷ xs) h =
    let parts = and_parts (ltb low x.id) (rises_after x.id xs) h in
    and_from (ltb low x.id) (rises_after x.id (take k xs)) parts.0 (rises_take x.id k xs parts.1)

pub objects_rise_take : (k : ℕ) (xs : List ObjectRow) → objects_rise xs ≡ true → objects_rise (take k xs) ≡ true
objects_rise_take zero [] h = refl
objects_rise_take (suc k) [] h = refl
objects_rise_take zero (x ∷ xs) h = refl
objects_rise_take (suc k) (x ∷ xs) h = rises_take x.id k xs h

pub objects_rise_drop : (k : ℕ) (xs : List ObjectRow) → objects_rise xs ≡ true → objects_rise (drop k xs) ≡ true
objects_rise_drop zero [] h = refl
objects_rise_drop (suc k) [] h = refl
objects_rise_drop zero (x ∷ xs) h = h
objects_rise_drop (suc k) (x ∷ xs) h = objects_rise_drop k xs (rise_rest x.id xs h)
