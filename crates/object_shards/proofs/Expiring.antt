-- The rows of the objects that expire, after each change of all rows.
use Rattle.std.proofs.Common.{◌≡◌, ℕ, ◌<◌, ◌≤◌, Bool, true, false, cond, not, eqb, ltb, ◌&&◌, Option, Some, None, List, [], ◌∷◌, map, refl, sym, ap, ◌∙◌, arith}
use Rattle.std.proofs.lemmas.Bool.Decides.{nat_tests}
use Rattle.std.proofs.lemmas.Bool.{and_parts, and_from}
use Rattle.std.proofs.lemmas.Grind.{common_steps}
use Rattle.std.specs.Prelude.{find, filter, nat_le}
use Rattle.delf_model.specs.declared.rows.ObjectRow.{ObjectRow}
use Rattle.delf_model.specs.Graph.{has_id, put_object, is_other_object, rewritten, rises_after, objects_rise}
use Rattle.delf_model.specs.Store.{least_due, is_due_after, is_above, id_of_row}
use Rattle.object_shards.specs.Rows.{expires}
use Rattle.object_shards.proofs.Ids.{rise_rest, none_above, other_first}

turned : (a b : ℕ) → eqb a b ≡ eqb b a
turned a b = grind (arith, nat_tests)

pub none_expires : (id : ℕ) (xs : List ObjectRow) → find (has_id id) xs ≡ None → find (has_id id) (filter expires xs) ≡ None
none_expires id [] none = refl
none_expires id (x ∷ xs) none =
    let parts = other_first x xs id none in
    go (expires x) parts.0 (none_expires id xs parts.1)
  where
    go : (b : Bool) → eqb x.id id ≡ false → find (has_id id) (filter expires xs) ≡ None → find (has_id id) (cond b (x ∷ filter expires xs) (filter expires xs)) ≡ None
    go true other rest = ap (λ (b : Bool). cond b (Some x) (find (has_id id) (filter expires xs))) other ∙ rest
    go false other rest = rest

-- a row of an object that does not expire adds none
pub put_lasting : (row : ObjectRow) (xs : List ObjectRow) → find (has_id row.id) xs ≡ None → expires row ≡ false →
    filter expires (put_object row xs) ≡ filter expires xs
put_lasting row [] none lasts = ap (λ (b : Bool). cond b (row ∷ []) []) lasts
put_lasting row (x ∷ xs) none lasts =
    let parts = other_first x xs row.id none in
    go (ltb row.id x.id) (eqb row.id x.id) (expires x) (turned row.id x.id ∙ parts.0) (put_lasting row xs parts.1 lasts)
  where
    go : (before same expiring : Bool) → same ≡ false → filter expires (put_object row xs) ≡ filter expires xs →
        filter expires (cond before (row ∷ x ∷ xs) (cond same (row ∷ xs) (x ∷ put_object row xs))) ≡ cond (expires x) (x ∷ filter expires xs) (filter expires xs)
    go true same expiring other more = ap (λ (b : Bool). cond b (row ∷ filter expires (x ∷ xs)) (filter expires (x ∷ xs))) lasts
    go false true expiring other more = absurd (cc)
    go false false expiring other more = ap (λ (rs : List ObjectRow). cond (expires x) (x ∷ rs) rs) more

rises_wider : (low high : ℕ) (xs : List ObjectRow) → low ≤ high → rises_after high xs ≡ true → rises_after low xs ≡ true
rises_wider low high [] l h = refl
rises_wider low high (x ∷ xs) l h = grind (arith, nat_tests, common_steps)

rises_cond : (b : Bool) (low : ℕ) (xs ys : List ObjectRow) → rises_after low xs ≡ true → rises_after low ys ≡ true → rises_after low (cond b xs ys) ≡ true
rises_cond true low xs ys one other = one
rises_cond false low xs ys one other = other

rises_expiring : (low : ℕ) (xs : List ObjectRow) → rises_after low xs ≡ true → rises_after low (filter expires xs) ≡ true
rises_expiring low [] h = refl
rises_expiring low (x ∷ xs) h =
    let parts = and_parts (ltb low x.id) (rises_after x.id xs) h in
    let under : low < x.id = grind (arith, nat_tests, parts.0) in
    rises_cond (expires x) low (x ∷ filter expires xs) (filter expires xs)
    (and_from (ltb low x.id) (rises_after x.id (filter expires xs)) parts.0 (rises_expiring x.id xs parts.1))
    (rises_expiring low xs (rises_wider low x.id xs (omega arith) parts.1))

put_before : (row : ObjectRow) (xs : List ObjectRow) → rises_after row.id xs ≡ true → put_object row xs ≡ row ∷ xs
put_before row [] h = refl
put_before row (x ∷ xs) h =
    let parts = and_parts (ltb row.id x.id) (rises_after x.id xs) h in
    ap (λ (b : Bool). cond b (row ∷ x ∷ xs) (cond (eqb row.id x.id) (row ∷ xs) (x ∷ put_object row xs))) parts.0

-- a row of an object that expires stands among those that do
pub put_expiring : (row : ObjectRow) (xs : List ObjectRow) → objects_rise xs ≡ true → find (has_id row.id) xs ≡ None → expires row ≡ true →
    filter expires (put_object row xs) ≡ put_object row (filter expires xs)
put_expiring row [] rise none ends = ap (λ (b : Bool). cond b (row ∷ []) []) ends
put_expiring row (x ∷ xs) rise none ends =
    let parts = other_first x xs row.id none in
    go (ltb row.id x.id) (eqb row.id x.id) refl refl (turned row.id x.id ∙ parts.0) (put_expiring row xs (rise_rest x.id xs rise) parts.1 ends)
  where
    later : (before same ending : Bool) → before ≡ false → same ≡ false → filter expires (put_object row xs) ≡ put_object row (filter expires xs) →
        cond ending (x ∷ filter expires (put_object row xs)) (filter expires (put_object row xs)) ≡
        (λ (b c : Bool). cond ending (cond b (row ∷ x ∷ filter expires xs) (cond c (row ∷ filter expires xs) (x ∷ put_object row (filter expires xs)))) (put_object row (filter expires xs))) before same
    later false false true b s more = ap (λ (rs : List ObjectRow). x ∷ rs) more
    later false false false b s more = more
    later true same ending b s more = absurd (cc)
    later false true ending b s more = absurd (cc)

    spread : (ending : Bool) →
        cond ending (cond (ltb row.id x.id) (row ∷ x ∷ filter expires xs) (cond (eqb row.id x.id) (row ∷ filter expires xs) (x ∷ put_object row (filter expires xs)))) (put_object row (filter expires xs))
        ≡ put_object row (cond ending (x ∷ filter expires xs) (filter expires xs))
    spread true = refl
    spread false = refl

    go : (before same : Bool) → ltb row.id x.id ≡ before → eqb row.id x.id ≡ same → eqb row.id x.id ≡ false →
        filter expires (put_object row xs) ≡ put_object row (filter expires xs) →
        filter expires (cond before (row ∷ x ∷ xs) (cond same (row ∷ xs) (x ∷ put_object row xs))) ≡ put_object row (filter expires (x ∷ xs))
    go true same b s other more =
        ap (λ (ending : Bool). cond ending (row ∷ filter expires (x ∷ xs)) (filter expires (x ∷ xs))) ends
        ∙ sym (put_before row (filter expires (x ∷ xs)) (rises_expiring row.id (x ∷ xs) (and_from (ltb row.id x.id) (rises_after x.id xs) b rise)))
    go false true b s other more = absurd (cc)
    go false false b s other more = later (ltb row.id x.id) (eqb row.id x.id) (expires x) b s more ∙ spread (expires x)

pub take_expiring : (id : ℕ) (xs : List ObjectRow) → filter expires (filter (is_other_object id) xs) ≡ filter (is_other_object id) (filter expires xs)
take_expiring id [] = refl
take_expiring id (x ∷ xs) = go (is_other_object id x) (expires x) refl refl (take_expiring id xs)
  where
    go : (other ending : Bool) → is_other_object id x ≡ other → expires x ≡ ending → filter expires (filter (is_other_object id) xs) ≡ filter (is_other_object id) (filter expires xs) →
        filter expires (cond other (x ∷ filter (is_other_object id) xs) (filter (is_other_object id) xs)) ≡ filter (is_other_object id) (cond ending (x ∷ filter expires xs) (filter expires xs))
    go true true o e more =
        ap (λ (b : Bool). cond b (x ∷ filter expires (filter (is_other_object id) xs)) (filter expires (filter (is_other_object id) xs))) e
        ∙ (ap (λ (rs : List ObjectRow). x ∷ rs) more
        ∙ sym (ap (λ (b : Bool). cond b (x ∷ filter (is_other_object id) (filter expires xs)) (filter (is_other_object id) (filter expires xs))) o))
    go true false o e more =
        ap (λ (b : Bool). cond b (x ∷ filter expires (filter (is_other_object id) xs)) (filter expires (filter (is_other_object id) xs))) e ∙ more
    go false true o e more =
        more ∙ sym (ap (λ (b : Bool). cond b (x ∷ filter (is_other_object id) (filter expires xs)) (filter (is_other_object id) (filter expires xs))) o)
    go false false o e more = more

same_due : (id at size : ℕ) (x : ObjectRow) → expires (rewritten id at size x) ≡ expires x
same_due id at size x = go (eqb x.id id)
  where
    go : (b : Bool) → expires (cond b (record x { at = at; size = size }) x) ≡ expires x
    go true = refl
    go false = refl

pub rewritten_expiring : (id at size : ℕ) (xs : List ObjectRow) → filter expires (map (rewritten id at size) xs) ≡ map (rewritten id at size) (filter expires xs)
rewritten_expiring id at size [] = refl
rewritten_expiring id at size (x ∷ xs) =
    ap (λ (b : Bool). cond b (rewritten id at size x ∷ filter expires (map (rewritten id at size) xs)) (filter expires (map (rewritten id at size) xs))) (same_due id at size x)
    ∙ go (expires x) (rewritten_expiring id at size xs)
  where
    go : (b : Bool) → filter expires (map (rewritten id at size) xs) ≡ map (rewritten id at size) (filter expires xs) →
        cond b (rewritten id at size x ∷ filter expires (map (rewritten id at size) xs)) (filter expires (map (rewritten id at size) xs)) ≡
        map (rewritten id at size) (cond b (x ∷ filter expires xs) (filter expires xs))
    go true more = ap (λ (rs : List ObjectRow). rewritten id at size x ∷ rs) more
    go false more = more

middle : (a b c : Bool) → b ≡ false → (a && b && c) ≡ false
middle a b c h = grind (arith, common_steps)

find_due : (moment : ℕ) (low : Option ℕ) (xs : List ObjectRow) → find (is_due_after moment low) (filter expires xs) ≡ find (is_due_after moment low) xs
find_due moment low [] = refl
find_due moment low (x ∷ xs) = go (expires x) refl (find_due moment low xs)
  where
    go : (b : Bool) → expires x ≡ b → find (is_due_after moment low) (filter expires xs) ≡ find (is_due_after moment low) xs →
        find (is_due_after moment low) (cond b (x ∷ filter expires xs) (filter expires xs)) ≡ find (is_due_after moment low) (x ∷ xs)
    go true is more = ap (cond (is_due_after moment low x) (Some x)) more
    go false is more =
        more ∙ sym (ap (λ (b : Bool). cond b (Some x) (find (is_due_after moment low) xs)) (middle (is_above low x.id) (expires x) (nat_le x.due moment) is))

pub due_expiring : (moment : ℕ) (low : Option ℕ) (xs : List ObjectRow) → least_due moment low (filter expires xs) ≡ least_due moment low xs
due_expiring moment low xs = ap id_of_row (find_due moment low xs)
