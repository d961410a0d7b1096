-- Rows by rising key: the place of a key, and what keeps the order.
use Rattle.std.proofs.Common.{◌≡◌, ℕ, suc, ◌+◌, ◌≤◌, Bool, true, false, cond, Option, Some, None, List, [], ◌∷◌, length, refl, ap, ◌∙◌, arith}
use Rattle.std.proofs.lemmas.Bool.Decides.{nat_tests}
use Rattle.std.proofs.lemmas.Bool.{and_parts, and_from}
use Rattle.std.proofs.lemmas.Grind.{common_steps}
use Rattle.std.specs.Prelude.{find, filter}
use Rattle.std.specs.List.{insert}
use Rattle.delf_model.specs.declared.rows.EdgeRow.{EdgeRow}
use Rattle.delf_model.specs.declared.rows.EdgeKey.{EdgeKey}
use Rattle.delf_model.specs.Graph.{same_key, key_before, has_key, put_edge, is_other_edge, keys_rise_after, edges_rise}
use Rattle.delf_model.proofs.Graphs.{same_key_sym}
use Rattle.live_graph.specs.Places.{edge_place_in}

pub before_along : (a b c : EdgeKey) → key_before a b ≡ true → key_before b c ≡ true → key_before a c ≡ true
before_along a b c h k = grind (arith, nat_tests, common_steps)

-- of two keys that are not one, one stands before the other
before_or_after : (a b : EdgeKey) → key_before a b ≡ false → same_key a b ≡ false → key_before b a ≡ true
before_or_after a b h k = grind (arith, nat_tests, common_steps)

before_same : (low a b : EdgeKey) → same_key a b ≡ true → key_before low b ≡ true → key_before low a ≡ true
before_same low a b h k = grind (arith, nat_tests, common_steps)

pub edge_place_within : (key : EdgeKey) (rows : List EdgeRow) → edge_place_in key rows ≤ length rows
edge_place_within key [] = omega arith
edge_place_within key (x ∷ xs) = go (key_before key x.key) (edge_place_within key xs)
  where
    go : (b : Bool) → edge_place_in key xs ≤ length xs → cond b 0 (suc (edge_place_in key xs)) ≤ length (x ∷ xs)
    go true rest = omega arith
    go false rest = omega arith

not_first : (b : Bool) (x : EdgeRow) (rest : Option EdgeRow) → cond b (Some x) rest ≡ None → (b ≡ false) × (rest ≡ None)
not_first true x rest none = cc
not_first false x rest none = (refl, none)

pub insert_edge_place : (row : EdgeRow) (rows : List EdgeRow) → find (has_key row.key) rows ≡ None →
    insert rows (edge_place_in row.key rows) row ≡ put_edge row rows
insert_edge_place row [] none = refl
insert_edge_place row (x ∷ xs) none =
    let parts = not_first (same_key x.key row.key) x (find (has_key row.key) xs) none in
    go (key_before row.key x.key) (same_key row.key x.key) (same_key_sym row.key x.key ∙ parts.0) (insert_edge_place row xs parts.1)
  where
    go : (before same : Bool) → same ≡ false → insert xs (edge_place_in row.key xs) row ≡ put_edge row xs →
        insert (x ∷ xs) (cond before 0 (suc (edge_place_in row.key xs))) row ≡
        cond before (row ∷ (x ∷ xs)) (cond same (row ∷ xs) (x ∷ put_edge row xs))
    go true same other rest = refl
    go false true other rest = absurd (cc)
    go false false other rest = ap (λ (ys : List EdgeRow). x ∷ ys) rest

-- one row more
pub length-put_edge : (row : EdgeRow) (rows : List EdgeRow) → length (put_edge row rows) ≤ length rows + 1
length-put_edge row [] = omega arith
length-put_edge row (x ∷ xs) = go (key_before row.key x.key) (same_key row.key x.key) (length-put_edge row xs)
  where
    go : (before same : Bool) → length (put_edge row xs) ≤ length xs + 1 →
        length (cond before (row ∷ (x ∷ xs)) (cond same (row ∷ xs) (x ∷ put_edge row xs))) ≤ length (x ∷ xs) + 1
    go true same rest = omega arith
    go false true rest = omega arith
    go false false rest = omega arith

-- keys still rise after a change

keys_tail : (low : EdgeKey) (xs : List EdgeRow) → keys_rise_after low xs ≡ true → edges_rise xs ≡ true
keys_tail low [] e = refl
keys_tail low (x ∷ xs) e = let parts = and_parts (key_before low x.key) (keys_rise_after x.key xs) e in parts.1

keys_wider : (low high : EdgeKey) (xs : List EdgeRow) → key_before low high ≡ true → keys_rise_after high xs ≡ true → keys_rise_after low xs ≡ true
keys_wider low high [] l h = refl
keys_wider low high (x ∷ xs) l h =
    let parts = and_parts (key_before high x.key) (keys_rise_after x.key xs) h in
    and_from (key_before low x.key) (keys_rise_after x.key xs) (before_along low high x.key l parts.0) parts.1

keys_same : (a b : EdgeKey) (xs : List EdgeRow) → same_key a b ≡ true → keys_rise_after b xs ≡ true → keys_rise_after a xs ≡ true
keys_same a b [] same h = refl
keys_same a b (x ∷ xs) same h =
    let parts = and_parts (key_before b x.key) (keys_rise_after x.key xs) h in
    and_from (key_before a x.key) (keys_rise_after x.key xs) (let first = parts.0 in grind (arith, nat_tests, common_steps)) parts.1

rises_with : (row x : EdgeRow) (xs rest : List EdgeRow) (low : EdgeKey) (before same : Bool) → key_before row.key x.key ≡ before →
    same_key row.key x.key ≡ same → key_before low row.key ≡ true → key_before low x.key ≡ true → keys_rise_after x.key xs ≡ true →
    (key_before x.key row.key ≡ true → keys_rise_after x.key rest ≡ true) →
    keys_rise_after low (cond before (row ∷ (x ∷ xs)) (cond same (row ∷ xs) (x ∷ rest))) ≡ true
rises_with row x xs rest low true same b s l h rise more =
    and_from (key_before low row.key) (keys_rise_after row.key (x ∷ xs)) l (and_from (key_before row.key x.key) (keys_rise_after x.key xs) b rise)
rises_with row x xs rest low false true b s l h rise more =
    and_from (key_before low row.key) (keys_rise_after row.key xs) l (keys_same row.key x.key xs s rise)
rises_with row x xs rest low false false b s l h rise more =
    and_from (key_before low x.key) (keys_rise_after x.key rest) h (more (before_or_after row.key x.key b s))

keys_put : (row : EdgeRow) (low : EdgeKey) (xs : List EdgeRow) → key_before low row.key ≡ true → keys_rise_after low xs ≡ true →
    keys_rise_after low (put_edge row xs) ≡ true
keys_put row low [] l h = and_from (key_before low row.key) true l refl
keys_put row low (x ∷ xs) l h =
    let parts = and_parts (key_before low x.key) (keys_rise_after x.key xs) h in
    rises_with row x xs (put_edge row xs) low (key_before row.key x.key) (same_key row.key x.key) refl refl l parts.0 parts.1
    (λ after. keys_put row x.key xs after parts.1)

pub edges_rise_put : (row : EdgeRow) (xs : List EdgeRow) → edges_rise xs ≡ true → edges_rise (put_edge row xs) ≡ true
edges_rise_put row [] h = refl
edges_rise_put row (x ∷ xs) h = go (key_before row.key x.key) (same_key row.key x.key) refl refl
  where
    go : (before same : Bool) → key_before row.key x.key ≡ before → same_key row.key x.key ≡ same →
        edges_rise (cond before (row ∷ (x ∷ xs)) (cond same (row ∷ xs) (x ∷ put_edge row xs))) ≡ true
    go true same b s = and_from (key_before row.key x.key) (keys_rise_after x.key xs) b h
    go false true b s = keys_same row.key x.key xs s h
    go false false b s = keys_put row x.key xs (before_or_after row.key x.key b s) h

keys_cond : (b : Bool) (low : EdgeKey) (xs ys : List EdgeRow) → keys_rise_after low xs ≡ true → keys_rise_after low ys ≡ true →
    keys_rise_after low (cond b xs ys) ≡ true
keys_cond true low xs ys one other = one
keys_cond false low xs ys one other = other

edges_cond : (b : Bool) (xs ys : List EdgeRow) → edges_rise xs ≡ true → edges_rise ys ≡ true → edges_rise (cond b xs ys) ≡ true
edges_cond true xs ys one other = one
edges_cond false xs ys one other = other

keys_filter : (key low : EdgeKey) (xs : List EdgeRow) → keys_rise_after low xs ≡ true → keys_rise_after low (filter (is_other_edge key) xs) ≡ true
keys_filter key low [] h = refl
keys_filter key low (x ∷ xs) h =
    let parts = and_parts (key_before low x.key) (keys_rise_after x.key xs) h in
    keys_cond (is_other_edge key x) low (x ∷ filter (is_other_edge key) xs) (filter (is_other_edge key) xs)
    (and_from (key_before low x.key) (keys_rise_after x.key (filter (is_other_edge key) xs)) parts.0 (keys_filter key x.key xs parts.1))
    (keys_filter key low xs (keys_wider low x.key xs parts.0 parts.1))

pub edges_rise_filter : (key : EdgeKey) (xs : List EdgeRow) → edges_rise xs ≡ true → edges_rise (filter (is_other_edge key) xs) ≡ true
edges_rise_filter key [] h = refl
edges_rise_filter key (x ∷ xs) h =
    edges_cond (is_other_edge key x) (x ∷ filter (is_other_edge key) xs) (filter (is_other_edge key) xs)
    (keys_filter key x.key xs h) (keys_tail x.key (filter (is_other_edge key) xs) (keys_filter key x.key xs h))

pub length-filter_edge : (key : EdgeKey) (xs : List EdgeRow) → length (filter (is_other_edge key) xs) ≤ length xs
length-filter_edge key [] = omega arith
length-filter_edge key (x ∷ xs) = go (is_other_edge key x) (length-filter_edge key xs)
  where
    go : (b : Bool) → length (filter (is_other_edge key) xs) ≤ length xs →
        length (cond b (x ∷ filter (is_other_edge key) xs) (filter (is_other_edge key) xs)) ≤ length (x ∷ xs)
    go true rest = omega arith
    go false rest = omega arith

pub put_edge_is : (row : EdgeRow) (seen old new : List EdgeRow) (place : ℕ) → seen ≡ old → place ≡ edge_place_in row.key seen →
    find (has_key row.key) old ≡ None → new ≡ insert old place row → new ≡ put_edge row old
put_edge_is row seen old new place same at none is =
    is ∙ ap (λ (n : ℕ). insert old n row) (at ∙ ap (λ (rs : List EdgeRow). edge_place_in row.key rs) same) ∙ insert_edge_place row old none
