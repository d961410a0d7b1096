-- Rows by rising key: what finds a row, and when two such lists are one.
use Rattle.std.proofs.Common.{◌≡◌, ◌+◌, ◌≤◌, Bool, true, false, cond, not, Option, Some, None, List, [], ◌∷◌, length, refl, sym, ap, subst, ◌∙◌, arith}
use Rattle.std.proofs.lemmas.Bool.{and_parts, and_from}
use Rattle.std.proofs.lemmas.Grind.{common_steps}
use Rattle.std.specs.Prelude.{find, filter, count_by, if◌then◌else◌}
use Rattle.delf_model.specs.declared.rows.EdgeRow.{EdgeRow}
use Rattle.delf_model.specs.declared.rows.EdgeKey.{EdgeKey}
use Rattle.delf_model.specs.Graph.{same_key, key_before, has_key, put_edge, is_other_edge, keys_rise_after, edges_rise}
use Rattle.delf_model.proofs.Graphs.{same_key_is, same_key_refl, same_key_sym}
use Rattle.edge_index.proofs.Keys.{before_along, before_apart, before_not_after, before_or_after}

pub rise_rest : (low : EdgeKey) (xs : List EdgeRow) → keys_rise_after low xs ≡ true → edges_rise xs ≡ true
rise_rest low [] h = refl
rise_rest low (x ∷ xs) h = (and_parts (key_before low x.key) (keys_rise_after x.key xs) h).1

pub rise_wider : (low high : EdgeKey) (xs : List EdgeRow) → key_before low high ≡ true → keys_rise_after high xs ≡ true → keys_rise_after low xs ≡ true
rise_wider low high [] l h = refl
rise_wider low high (x ∷ xs) l h =
    let parts = and_parts (key_before high x.key) (keys_rise_after x.key xs) h in
    and_from (key_before low x.key) (keys_rise_after x.key xs) (before_along low high x.key l parts.0) parts.1

pub cond_no : {A : Type 0} (b : Bool) (x y : A) → b ≡ false → cond b x y ≡ y
cond_no true x y h = absurd (cc)
cond_no false x y h = refl

pub cond_yes : {A : Type 0} (b : Bool) (x y : A) → b ≡ true → cond b x y ≡ x
cond_yes true x y h = refl
cond_yes false x y h = absurd (cc)

-- no row at or above a key that all are above
pub find_above : (key : EdgeKey) (xs : List EdgeRow) → keys_rise_after key xs ≡ true → find (has_key key) xs ≡ None
find_above key [] h = refl
find_above key (x ∷ xs) h =
    let parts = and_parts (key_before key x.key) (keys_rise_after x.key xs) h in
    cond_no (same_key x.key key) (Some x) (find (has_key key) xs) (same_key_sym x.key key ∙ before_apart key x.key parts.0)
    ∙ find_above key xs (rise_wider key x.key xs parts.0 parts.1)

pub find_first : (x : EdgeRow) (xs : List EdgeRow) → find (has_key x.key) (x ∷ xs) ≡ Some x
find_first x xs = cond_yes (same_key x.key x.key) (Some x) (find (has_key x.key) xs) (same_key_refl x.key)

pub put_first : (row : EdgeRow) (xs : List EdgeRow) → keys_rise_after row.key xs ≡ true → put_edge row xs ≡ row ∷ xs
put_first row [] h = refl
put_first row (x ∷ xs) h =
    let parts = and_parts (key_before row.key x.key) (keys_rise_after x.key xs) h in
    cond_yes (key_before row.key x.key) (row ∷ (x ∷ xs)) (cond (same_key row.key x.key) (row ∷ xs) (x ∷ put_edge row xs)) parts.0

pub put_later : (row x : EdgeRow) (xs : List EdgeRow) → key_before x.key row.key ≡ true → put_edge row (x ∷ xs) ≡ x ∷ put_edge row xs
put_later row x xs h =
    cond_no (key_before row.key x.key) (row ∷ (x ∷ xs)) (cond (same_key row.key x.key) (row ∷ xs) (x ∷ put_edge row xs)) (before_not_after x.key row.key h)
    ∙ cond_no (same_key row.key x.key) (row ∷ xs) (x ∷ put_edge row xs) (same_key_sym row.key x.key ∙ before_apart x.key row.key h)

pub filter_above : (key : EdgeKey) (xs : List EdgeRow) → keys_rise_after key xs ≡ true → filter (is_other_edge key) xs ≡ xs
filter_above key [] h = refl
filter_above key (x ∷ xs) h =
    let parts = and_parts (key_before key x.key) (keys_rise_after x.key xs) h in
    cond_yes (not (same_key x.key key)) (x ∷ filter (is_other_edge key) xs) (filter (is_other_edge key) xs)
    (ap not (same_key_sym x.key key ∙ before_apart key x.key parts.0))
    ∙ ap (λ (ys : List EdgeRow). x ∷ ys) (filter_above key xs (rise_wider key x.key xs parts.0 parts.1))

-- two lists by rising key with the same rows are one

not_in_tail : (key : EdgeKey) (y : EdgeRow) (ys : List EdgeRow) → key_before key y.key ≡ true → edges_rise (y ∷ ys) ≡ true → find (has_key key) (y ∷ ys) ≡ None
not_in_tail key y ys before rise = find_above key (y ∷ ys) (and_from (key_before key y.key) (keys_rise_after y.key ys) before rise)

tail_case : (key : EdgeKey) (x : EdgeRow) (xs ys : List EdgeRow) (b : Bool) → same_key x.key key ≡ b → keys_rise_after x.key xs ≡ true → keys_rise_after x.key ys ≡ true →
    cond b (Some x) (find (has_key key) xs) ≡ cond b (Some x) (find (has_key key) ys) → find (has_key key) xs ≡ find (has_key key) ys
tail_case key x xs ys true is one other same =
    let at : x.key ≡ key = same_key_is x.key key is in
    subst (λ (k : EdgeKey). find (has_key k) xs ≡ find (has_key k) ys) at (find_above x.key xs one ∙ sym (find_above x.key ys other))
tail_case key x xs ys false is one other same = same

pub rows_one : (xs ys : List EdgeRow) → edges_rise xs ≡ true → edges_rise ys ≡ true → ((key : EdgeKey) → find (has_key key) xs ≡ find (has_key key) ys) → xs ≡ ys
rows_one [] [] h k same = refl
rows_one [] (y ∷ ys) h k same = absurd (cc (same y.key, find_first y ys))
rows_one (x ∷ xs) [] h k same = absurd (cc (same x.key, find_first x xs))
rows_one (x ∷ xs) (y ∷ ys) h k same =
    go (key_before x.key y.key) (same_key x.key y.key) refl refl (rows_one xs ys (rise_rest x.key xs h) (rise_rest y.key ys k))
  where
    go : (before one : Bool) → key_before x.key y.key ≡ before → same_key x.key y.key ≡ one →
        (((key : EdgeKey) → find (has_key key) xs ≡ find (has_key key) ys) → xs ≡ ys) → x ∷ xs ≡ y ∷ ys
    go true one b s more = absurd (cc (same x.key, find_first x xs, not_in_tail x.key y ys b k))
    go false false b s more = absurd (cc (same y.key, find_first y ys, not_in_tail y.key x xs (before_or_after x.key y.key b s) h))
    go false true b s more =
        let keys : x.key ≡ y.key = same_key_is x.key y.key s in
        let found : find (has_key x.key) (y ∷ ys) ≡ Some y = subst (λ (q : EdgeKey). find (has_key q) (y ∷ ys) ≡ Some y) (sym keys) (find_first y ys) in
        let heads : x ≡ y = cc (find_first x xs, same x.key, found) in
        let rest : xs ≡ ys = more
        (λ key. tail_case key x xs ys (same_key x.key key) refl h (subst (λ (q : EdgeKey). keys_rise_after q ys ≡ true) (sym keys) k)
        (same key ∙ ap (λ (r : EdgeRow). find (has_key key) (r ∷ ys)) (sym heads))) in
        cc

-- counts and lengths of the rows after one comes or goes

none_parts : (b : Bool) (x : EdgeRow) (rest : Option EdgeRow) → cond b (Some x) rest ≡ None → (b ≡ false) × (rest ≡ None)
none_parts true x rest none = absurd (cc)
none_parts false x rest none = (refl, none)

put_count : (f : EdgeRow → Bool) (row x : EdgeRow) (xs rest : List EdgeRow) (before same : Bool) → same ≡ false →
    count_by f rest ≡ count_by f xs + (if f row then 1 else 0) →
    count_by f (cond before (row ∷ (x ∷ xs)) (cond same (row ∷ xs) (x ∷ rest))) ≡ count_by f (x ∷ xs) + (if f row then 1 else 0)
put_count f row x xs rest true same other more = grind (arith, common_steps)
put_count f row x xs rest false true other more = absurd (cc)
put_count f row x xs rest false false other more = grind (arith, common_steps)

pub count_put : (f : EdgeRow → Bool) (row : EdgeRow) (xs : List EdgeRow) → find (has_key row.key) xs ≡ None →
    count_by f (put_edge row xs) ≡ count_by f xs + (if f row then 1 else 0)
count_put f row [] none = grind (arith, common_steps)
count_put f row (x ∷ xs) none =
    let parts = none_parts (same_key x.key row.key) x (find (has_key row.key) xs) none in
    put_count f row x xs (put_edge row xs) (key_before row.key x.key) (same_key row.key x.key) (same_key_sym row.key x.key ∙ parts.0) (count_put f row xs parts.1)

pub length_put : (row : EdgeRow) (xs : List EdgeRow) → length (put_edge row xs) ≤ length xs + 1
length_put row [] = omega arith
length_put row (x ∷ xs) = go (key_before row.key x.key) (same_key row.key x.key) (length_put row xs)
  where
    go : (before same : Bool) → length (put_edge row xs) ≤ length xs + 1 →
        length (cond before (row ∷ (x ∷ xs)) (cond same (row ∷ xs) (x ∷ put_edge row xs))) ≤ length (x ∷ xs) + 1
    go true same rest = omega arith
    go false true rest = omega arith
    go false false rest = omega arith

pub length_filter : (p : EdgeRow → Bool) (xs : List EdgeRow) → length (filter p xs) ≤ length xs
length_filter p [] = omega arith
length_filter p (x ∷ xs) = go (p x) (length_filter p xs)
  where
    go : (b : Bool) → length (filter p xs) ≤ length xs → length (cond b (x ∷ filter p xs) (filter p xs)) ≤ length (x ∷ xs)
    go true rest = omega arith
    go false rest = omega arith

-- whether the row that was found passes
abbrev pub passes : (EdgeRow → Bool) → Option EdgeRow → Bool
passes f (Some row) = f row
passes f None = false

take_count : (f : EdgeRow → Bool) (key : EdgeKey) (x : EdgeRow) (xs rest : List EdgeRow) (b : Bool) → (b ≡ true → rest ≡ xs) →
    count_by f xs ≡ count_by f rest + (if passes f (find (has_key key) xs) then 1 else 0) →
    count_by f (x ∷ xs) ≡ count_by f (cond (not b) (x ∷ rest) rest) + (if passes f (cond b (Some x) (find (has_key key) xs)) then 1 else 0)
take_count f key x xs rest true same more = let is = same refl in grind (arith, common_steps, is)
take_count f key x xs rest false same more = grind (arith, common_steps)

pub count_take : (f : EdgeRow → Bool) (key : EdgeKey) (xs : List EdgeRow) → edges_rise xs ≡ true →
    count_by f xs ≡ count_by f (filter (is_other_edge key) xs) + (if passes f (find (has_key key) xs) then 1 else 0)
count_take f key [] rise = refl
count_take f key (x ∷ xs) rise =
    take_count f key x xs (filter (is_other_edge key) xs) (same_key x.key key)
    (λ is. filter_above key xs (subst (λ (q : EdgeKey). keys_rise_after q xs ≡ true) (same_key_is x.key key is) rise))
    (count_take f key xs (rise_rest x.key xs rise))

pub rise_filter : (p : EdgeRow → Bool) (low : EdgeKey) (xs : List EdgeRow) → keys_rise_after low xs ≡ true → keys_rise_after low (filter p xs) ≡ true
rise_filter p low [] h = refl
rise_filter p low (x ∷ xs) h =
    let parts = and_parts (key_before low x.key) (keys_rise_after x.key xs) h in
    go (p x) (and_from (key_before low x.key) (keys_rise_after x.key (filter p xs)) parts.0 (rise_filter p x.key xs parts.1))
    (rise_filter p low xs (rise_wider low x.key xs parts.0 parts.1))
  where
    go : (b : Bool) → keys_rise_after low (x ∷ filter p xs) ≡ true → keys_rise_after low (filter p xs) ≡ true →
        keys_rise_after low (cond b (x ∷ filter p xs) (filter p xs)) ≡ true
    go true one other = one
    go false one other = other

pub rises_filter : (p : EdgeRow → Bool) (xs : List EdgeRow) → edges_rise xs ≡ true → edges_rise (filter p xs) ≡ true
rises_filter p [] h = refl
rises_filter p (x ∷ xs) h = go (p x) (rise_filter p x.key xs h) (rise_rest x.key (filter p xs) (rise_filter p x.key xs h))
  where
    go : (b : Bool) → keys_rise_after x.key (filter p xs) ≡ true → edges_rise (filter p xs) ≡ true → edges_rise (cond b (x ∷ filter p xs) (filter p xs)) ≡ true
    go true one other = one
    go false one other = other
