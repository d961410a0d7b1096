-- Rows whose ids stand between two bounds: what each change of them keeps, and what it does to rows before and after them.
use Rattle.std.proofs.Common.{◌≡◌, ℕ, zero, suc, ◌≤◌, ◌<◌, Bool, true, false, ◌&&◌, cond, eqb, ltb, leb, map, Option, Some, None, List, [], ◌∷◌, ◌++◌, take, drop, refl, sym, ap, subst, ◌∙◌, arith}
use Rattle.std.proofs.lemmas.Bool.Decides.{nat_tests}
use Rattle.std.proofs.lemmas.Bool.{and_parts, and_from}
use Rattle.std.proofs.lemmas.List.{map-append}
use Rattle.std.proofs.lemmas.List.Elements.{filter-append}
use Rattle.std.specs.Prelude.{find, filter}
use Rattle.delf_model.specs.declared.rows.ObjectRow.{ObjectRow}
use Rattle.delf_model.specs.Graph.{has_id, put_object, is_other_object, rewritten}
use Rattle.object_shards.specs.Rows.{ids_within}
use Rattle.object_shards.proofs.Ids.{map_none, filter_none, same_id}

pub record First (low high : ℕ) (x : ObjectRow) (xs : List ObjectRow) : Type 0 where
  pub above : low ≤ x.id
  pub below : x.id < high
  pub rest : ids_within low high xs ≡ true

pub first_of_within : (low high : ℕ) (x : ObjectRow) (xs : List ObjectRow) → ids_within low high (x ∷ xs) ≡ true → First low high x xs
first_of_within low high x xs w =
    let parts = and_parts (leb low x.id && ltb x.id high) (ids_within low high xs) w in
    let both = and_parts (leb low x.id) (ltb x.id high) parts.0 in
    record { above = grind (arith, nat_tests, both.0); below = grind (arith, nat_tests, both.1); rest = parts.1 }

pub within_from : (low high : ℕ) (x : ObjectRow) (xs : List ObjectRow) → low ≤ x.id → x.id < high → ids_within low high xs ≡ true →
    ids_within low high (x ∷ xs) ≡ true
within_from low high x xs above below rest =
    let one : leb low x.id ≡ true = grind (arith, nat_tests) in
    let two : ltb x.id high ≡ true = grind (arith, nat_tests) in
    and_from (leb low x.id && ltb x.id high) (ids_within low high xs) (and_from (leb low x.id) (ltb x.id high) one two) rest

pub within_wider : (low high lower higher : ℕ) (xs : List ObjectRow) → lower ≤ low → high ≤ higher → ids_within low high xs ≡ true →
    ids_within lower higher xs ≡ true
within_wider low high lower higher [] l h w = refl
within_wider low high lower higher (x ∷ xs) l h w =
    let first = first_of_within low high x xs w in
    let above = first.above in
    let below = first.below in
    within_from lower higher x xs (omega arith) (omega arith) (within_wider low high lower higher xs l h first.rest)

pub within_append : (low high : ℕ) (xs ys : List ObjectRow) → ids_within low high xs ≡ true → ids_within low high ys ≡ true →
    ids_within low high (xs ++ ys) ≡ true
within_append low high [] ys w v = v
within_append low high (x ∷ xs) ys w v =
    let first = first_of_within low high x xs w in
    within_from low high x (xs ++ ys) first.above first.below (within_append low high xs ys first.rest v)

within_cond : (b : Bool) (low high : ℕ) (xs ys : List ObjectRow) → ids_within low high xs ≡ true → ids_within low high ys ≡ true →
    ids_within low high (cond b xs ys) ≡ true
within_cond true low high xs ys w v = w
within_cond false low high xs ys w v = v

pub within_put : (row : ObjectRow) (low high : ℕ) (xs : List ObjectRow) → low ≤ row.id → row.id < high → ids_within low high xs ≡ true →
    ids_within low high (put_object row xs) ≡ true
within_put row low high [] l h w = within_from low high row [] l h w
within_put row low high (x ∷ xs) l h w =
    let first = first_of_within low high x xs w in
    within_cond (ltb row.id x.id) low high (row ∷ (x ∷ xs)) (cond (eqb row.id x.id) (row ∷ xs) (x ∷ put_object row xs))
    (within_from low high row (x ∷ xs) l h w)
    (within_cond (eqb row.id x.id) low high (row ∷ xs) (x ∷ put_object row xs) (within_from low high row xs l h first.rest)
    (within_from low high x (put_object row xs) first.above first.below (within_put row low high xs l h first.rest)))

pub within_filter : (id low high : ℕ) (xs : List ObjectRow) → ids_within low high xs ≡ true → ids_within low high (filter (is_other_object id) xs) ≡ true
within_filter id low high [] w = refl
within_filter id low high (x ∷ xs) w =
    let first = first_of_within low high x xs w in
    let rest = within_filter id low high xs first.rest in
    within_cond (is_other_object id x) low high (x ∷ filter (is_other_object id) xs) (filter (is_other_object id) xs)
    (within_from low high x (filter (is_other_object id) xs) first.above first.below rest) rest

pub within_rewritten : (id at size low high : ℕ) (xs : List ObjectRow) → ids_within low high xs ≡ true →
    ids_within low high (map (rewritten id at size) xs) ≡ true
within_rewritten id at size low high [] w = refl
within_rewritten id at size low high (x ∷ xs) w =
    let first = first_of_within low high x xs w in
    let same : (rewritten id at size x).id ≡ x.id = same_id id at size x in
    within_from low high (rewritten id at size x) (map (rewritten id at size) xs)
    (subst (λ (n : ℕ). low ≤ n) (sym same) first.above) (subst (λ (n : ℕ). n < high) (sym same) first.below)
    (within_rewritten id at size low high xs first.rest)

pub within_take : (low high k : ℕ) (xs : List ObjectRow) → ids_within low high xs ≡ true → ids_within low high (take k xs) ≡ true
within_take low high zero [] w = refl
within_take low high (suc k) [] w = refl
within_take low high zero (x ∷ xs) w = refl
within_take low high (suc k) (x ∷ xs) w =
    let first = first_of_within low high x xs w in within_from low high x (take k xs) first.above first.below (within_take low high k xs first.rest)

pub within_drop : (low high k : ℕ) (xs : List ObjectRow) → ids_within low high xs ≡ true → ids_within low high (drop k xs) ≡ true
within_drop low high zero [] w = refl
within_drop low high (suc k) [] w = refl
within_drop low high zero (x ∷ xs) w = w
within_drop low high (suc k) (x ∷ xs) w =
    let first = first_of_within low high x xs w in within_drop low high k xs first.rest

-- an id below or past all rows is found in none

pub none_under : (id low high : ℕ) (xs : List ObjectRow) → id < low → ids_within low high xs ≡ true → find (has_id id) xs ≡ None
none_under id low high [] l w = refl
none_under id low high (x ∷ xs) l w =
    let first = first_of_within low high x xs w in
    let above = first.above in
    let differs : eqb x.id id ≡ false = grind (arith, nat_tests) in
    ap (λ (b : Bool). cond b (Some x) (find (has_id id) xs)) differs ∙ none_under id low high xs l first.rest

pub none_past : (id low high : ℕ) (xs : List ObjectRow) → high ≤ id → ids_within low high xs ≡ true → find (has_id id) xs ≡ None
none_past id low high [] h w = refl
none_past id low high (x ∷ xs) h w =
    let first = first_of_within low high x xs w in
    let below = first.below in
    let differs : eqb x.id id ≡ false = grind (arith, nat_tests) in
    ap (λ (b : Bool). cond b (Some x) (find (has_id id) xs)) differs ∙ none_past id low high xs h first.rest

-- the first that passes among rows in two parts

pub find_front : (p : ObjectRow → Bool) (xs ys : List ObjectRow) → find p ys ≡ None → find p (xs ++ ys) ≡ find p xs
find_front p [] ys none = none
find_front p (x ∷ xs) ys none = ap (λ (found : Option ObjectRow). cond (p x) (Some x) found) (find_front p xs ys none)

pub find_back : (p : ObjectRow → Bool) (xs ys : List ObjectRow) → find p xs ≡ None → find p (xs ++ ys) ≡ find p ys
find_back p [] ys none = refl
find_back p (x ∷ xs) ys none = go (p x) none (find_back p xs ys)
  where
    go : (b : Bool) → cond b (Some x) (find p xs) ≡ None → (find p xs ≡ None → find p (xs ++ ys) ≡ find p ys) →
        cond b (Some x) (find p (xs ++ ys)) ≡ find p ys
    go true is rest = absurd (cc is)
    go false is rest = rest is

pub find_first : (p : ObjectRow → Bool) (xs ys : List ObjectRow) (row : ObjectRow) → find p xs ≡ Some row → find p (xs ++ ys) ≡ Some row
find_first p [] ys row is = absurd (cc is)
find_first p (x ∷ xs) ys row is = go (p x) is (find_first p xs ys row)
  where
    go : (b : Bool) → cond b (Some x) (find p xs) ≡ Some row → (find p xs ≡ Some row → find p (xs ++ ys) ≡ Some row) →
        cond b (Some x) (find p (xs ++ ys)) ≡ Some row
    go true is rest = is
    go false is rest = rest is

-- a change that is made where one id stands: rows below and past the id stay as they are

pub record IsLocal (id : ℕ) (f : List ObjectRow → List ObjectRow) : Type 0 where
  pub front : (xs ys : List ObjectRow) (m high : ℕ) → id < m → ids_within m high ys ≡ true → f (xs ++ ys) ≡ f xs ++ ys
  pub back : (xs ys : List ObjectRow) (low m : ℕ) → m ≤ id → ids_within low m xs ≡ true → f (xs ++ ys) ≡ xs ++ f ys
  pub kept : (low high : ℕ) (xs : List ObjectRow) → low ≤ id → id < high → ids_within low high xs ≡ true → ids_within low high (f xs) ≡ true

put_front : (row : ObjectRow) (xs ys : List ObjectRow) (m high : ℕ) → row.id < m → ids_within m high ys ≡ true →
    put_object row (xs ++ ys) ≡ put_object row xs ++ ys
put_front row [] [] m high l w = refl
put_front row [] (y ∷ ys) m high l w =
    let first = first_of_within m high y ys w in
    let above = first.above in
    let before : ltb row.id y.id ≡ true = grind (arith, nat_tests) in
    ap (λ (b : Bool). cond b (row ∷ (y ∷ ys)) (cond (eqb row.id y.id) (row ∷ ys) (y ∷ put_object row ys))) before
put_front row (x ∷ xs) ys m high l w = go (ltb row.id x.id) (eqb row.id x.id) (put_front row xs ys m high l w)
  where
    go : (before same : Bool) → put_object row (xs ++ ys) ≡ put_object row xs ++ ys →
        cond before (row ∷ (x ∷ (xs ++ ys))) (cond same (row ∷ (xs ++ ys)) (x ∷ put_object row (xs ++ ys))) ≡
        cond before (row ∷ (x ∷ xs)) (cond same (row ∷ xs) (x ∷ put_object row xs)) ++ ys
    go true same rest = refl
    go false true rest = refl
    go false false rest = ap (λ (zs : List ObjectRow). x ∷ zs) rest

put_back : (row : ObjectRow) (xs ys : List ObjectRow) (low m : ℕ) → m ≤ row.id → ids_within low m xs ≡ true →
    put_object row (xs ++ ys) ≡ xs ++ put_object row ys
put_back row [] ys low m l w = refl
put_back row (x ∷ xs) ys low m l w =
    let first = first_of_within low m x xs w in
    let below = first.below in
    let before : ltb row.id x.id ≡ false = grind (arith, nat_tests) in
    let same : eqb row.id x.id ≡ false = grind (arith, nat_tests) in
    (ap (λ (b : Bool). cond b (row ∷ (x ∷ (xs ++ ys))) (cond (eqb row.id x.id) (row ∷ (xs ++ ys)) (x ∷ put_object row (xs ++ ys)))) before ∙
    ap (λ (b : Bool). cond b (row ∷ (xs ++ ys)) (x ∷ put_object row (xs ++ ys))) same) ∙
    ap (λ (zs : List ObjectRow). x ∷ zs) (put_back row xs ys low m l first.rest)

pub put_is_local : (row : ObjectRow) → IsLocal row.id (put_object row)
put_is_local row = record {
  front = put_front row;
  back = put_back row;
  kept = λ low high xs l h w. within_put row low high xs l h w;
}

pub filter_is_local : (id : ℕ) → IsLocal id (filter (is_other_object id))
filter_is_local id = record {
  front = λ xs ys m high l w. filter-append (is_other_object id) xs ys ∙
      ap (λ (zs : List ObjectRow). filter (is_other_object id) xs ++ zs) (filter_none id ys (none_under id m high ys l w));
  back = λ xs ys low m l w. filter-append (is_other_object id) xs ys ∙
      ap (λ (zs : List ObjectRow). zs ++ filter (is_other_object id) ys) (filter_none id xs (none_past id low m xs l w));
  kept = λ low high xs l h w. within_filter id low high xs w;
}

pub rewritten_is_local : (id at size : ℕ) → IsLocal id (map (rewritten id at size))
rewritten_is_local id at size = record {
  front = λ xs ys m high l w. map-append (rewritten id at size) xs ys ∙
      ap (λ (zs : List ObjectRow). map (rewritten id at size) xs ++ zs) (map_none id at size ys (none_under id m high ys l w));
  back = λ xs ys low m l w. map-append (rewritten id at size) xs ys ∙
      ap (λ (zs : List ObjectRow). zs ++ map (rewritten id at size) ys) (map_none id at size xs (none_past id low m xs l w));
  kept = λ low high xs l h w. within_rewritten id at size low high xs w;
}

pub same_is_local : (id : ℕ) → IsLocal id (λ xs. xs)
same_is_local id = record {
  front = λ xs ys m high l w. refl;
  back = λ xs ys low m l w. refl;
  kept = λ low high xs l h w. w;
}
