-- Rows by rising id: what is found in them, and that what is found makes them.
use Rattle.std.proofs.Common.{Less, ◌≡◌, ℕ, zero, suc, ◌+◌, ◌<◌, Bool, true, false, cond, eqb, ltb, Option, Some, None, List, [], ◌∷◌, length, get_or, map, add-one, refl, sym, ap, subst, ◌∙◌, arith}
use Rattle.std.proofs.lemmas.Bool.Decides.{nat_tests}
use Rattle.std.proofs.lemmas.Bool.{and_parts, and_from, eqb-true}
use Rattle.std.proofs.lemmas.Grind.{common_steps}
use Rattle.std.proofs.lemmas.Map.Keys.{apart_from_distinct}
use Rattle.std.specs.Prelude.{find, filter, nat_eq}
use Rattle.std.specs.Option.{option_map}
use Rattle.std.specs.List.{IsDistinct, AllZip}
use Rattle.std.specs.List.Sorted.{IsSorted}
use Rattle.std.specs.Map.{keys_of}
use Rattle.std.specs.Ordering.{is_lt, nat_cmp}
use Rattle.delf_model.specs.declared.rows.ObjectRow.{ObjectRow}
use Rattle.delf_model.specs.Graph.{has_id, put_object, is_other_object, rewritten, rises_after, objects_rise}
use Rattle.delf_model.proofs.Graphs.{find-put_object, find-filter_object, find-rewritten}
use Rattle.object_shards.specs.declared.table.Kept.{Kept}
use Rattle.object_shards.specs.Table.{Entry, row_of, row_of_entry, kept_of, found, row_found, renewed, by_id}
use Rattle.object_shards.proofs.Ids.{rise_rest, none_above, objects_rise_put, objects_rise_filter, objects_rise_rewritten}

-- two lists by rising id with the same rows are one

cond_yes : {A : Type 0} (b : Bool) (x y : A) → b ≡ true → cond b x y ≡ x
cond_yes true x y h = refl
cond_yes false x y h = absurd (cc)

self : (id : ℕ) → eqb id id ≡ true
self id = grind (arith, nat_tests)

find_first : (x : ObjectRow) (xs : List ObjectRow) → find (has_id x.id) (x ∷ xs) ≡ Some x
find_first x xs = cond_yes (eqb x.id x.id) (Some x) (find (has_id x.id) xs) (self x.id)

under : (a b : ℕ) → ltb a b ≡ true → a < b
under a b h = grind (arith, nat_tests)

not_in_tail : (id : ℕ) (y : ObjectRow) (ys : List ObjectRow) → ltb id y.id ≡ true → objects_rise (y ∷ ys) ≡ true → find (has_id id) (y ∷ ys) ≡ None
not_in_tail id y ys before rise =
    none_above id id (y ∷ ys) (and_from (ltb id y.id) (rises_after y.id ys) before rise) (omega arith)

tail_case : (id : ℕ) (x : ObjectRow) (xs ys : List ObjectRow) (b : Bool) → eqb x.id id ≡ b → rises_after x.id xs ≡ true → rises_after x.id ys ≡ true →
    cond b (Some x) (find (has_id id) xs) ≡ cond b (Some x) (find (has_id id) ys) → find (has_id id) xs ≡ find (has_id id) ys
tail_case id x xs ys true is one other same =
    subst (λ (k : ℕ). find (has_id k) xs ≡ find (has_id k) ys) (eqb-true x.id id is)
    (none_above x.id x.id xs one (omega arith) ∙ sym (none_above x.id x.id ys other (omega arith)))
tail_case id x xs ys false is one other same = same

level : (a b : ℕ) → ltb a b ≡ false → eqb a b ≡ false → ltb b a ≡ true
level a b h k = grind (arith, nat_tests)

pub rows_one : (xs ys : List ObjectRow) → objects_rise xs ≡ true → objects_rise ys ≡ true → ((id : ℕ) → find (has_id id) xs ≡ find (has_id id) ys) → xs ≡ ys
rows_one [] [] h k same = refl
rows_one [] (y ∷ ys) h k same = absurd (cc (same y.id, find_first y ys))
rows_one (x ∷ xs) [] h k same = absurd (cc (same x.id, find_first x xs))
rows_one (x ∷ xs) (y ∷ ys) h k same =
    go (ltb x.id y.id) (eqb x.id y.id) refl refl (rows_one xs ys (rise_rest x.id xs h) (rise_rest y.id ys k))
  where
    go : (before one : Bool) → ltb x.id y.id ≡ before → eqb x.id y.id ≡ one →
        (((id : ℕ) → find (has_id id) xs ≡ find (has_id id) ys) → xs ≡ ys) → x ∷ xs ≡ y ∷ ys
    go true one b s more = absurd (cc (same x.id, find_first x xs, not_in_tail x.id y ys b k))
    go false false b s more = absurd (cc (same y.id, find_first y ys, not_in_tail y.id x xs (level x.id y.id b s) h))
    go false true b s more =
        let ids : x.id ≡ y.id = eqb-true x.id y.id s in
        let got : find (has_id x.id) (y ∷ ys) ≡ Some y = subst (λ (q : ℕ). find (has_id q) (y ∷ ys) ≡ Some y) (sym ids) (find_first y ys) in
        let heads : x ≡ y = cc (find_first x xs, same x.id, got) in
        let rest : xs ≡ ys = more
        (λ id. tail_case id x xs ys (eqb x.id id) refl h (subst (λ (q : ℕ). rises_after q ys ≡ true) (sym ids) k)
        (same id ∙ ap (λ (r : ObjectRow). find (has_id id) (r ∷ ys)) (sym heads))) in
        cc

-- entries in no order, seen by rising id

pub by_id_rise : (es : List Entry) → objects_rise (by_id es) ≡ true
by_id_rise [] = refl
by_id_rise (e ∷ es) = objects_rise_put (row_of e.0 e.1) (by_id es) (by_id_rise es)

turned : (a b : ℕ) → eqb a b ≡ eqb b a
turned a b = grind (arith, nat_tests)

found_more : (id q : ℕ) (kept : Kept) (rest : Option Kept) (b : Bool) → eqb id q ≡ b →
    cond b (Some (row_of id kept)) (row_found q rest) ≡ row_found q (cond b (Some kept) rest)
found_more id q kept rest true is = ap (λ (n : ℕ). Some (row_of n kept)) (eqb-true id q is)
found_more id q kept rest false is = refl

pub by_id_found : (es : List Entry) (q : ℕ) → find (has_id q) (by_id es) ≡ row_found q (found es q)
by_id_found [] q = refl
by_id_found (e ∷ es) q =
    find-put_object (row_of e.0 e.1) (by_id es) q
    ∙ (ap (cond (eqb e.0 q) (Some (row_of e.0 e.1))) (by_id_found es q)
    ∙ (found_more e.0 q e.1 (found es q) (eqb e.0 q) refl
    ∙ ap (λ (b : Bool). row_found q (cond b (Some e.1) (found es q))) (turned e.0 q)))

-- what a table has after one id is written or taken out
abbrev pub Changed : List Entry → List Entry → ℕ → Option Kept → Type 0
Changed old new id kept = (q : ℕ) → found new q ≡ cond (nat_eq id q) kept (found old q)

put_found : (row : ObjectRow) (q : ℕ) (rest : Option Kept) (b : Bool) → eqb row.id q ≡ b →
    row_found q (cond b (Some (kept_of row)) rest) ≡ cond b (Some row) (row_found q rest)
put_found row q rest true is = ap (λ (n : ℕ). Some (row_of n (kept_of row))) (sym (eqb-true row.id q is))
put_found row q rest false is = refl

pub by_id_put : (old new : List Entry) (row : ObjectRow) → Changed old new row.id (Some (kept_of row)) → by_id new ≡ put_object row (by_id old)
by_id_put old new row changed =
    rows_one (by_id new) (put_object row (by_id old)) (by_id_rise new) (objects_rise_put row (by_id old) (by_id_rise old))
    (λ q. by_id_found new q ∙ (ap (row_found q) (changed q) ∙ (put_found row q (found old q) (eqb row.id q) refl
    ∙ (ap (cond (eqb row.id q) (Some row)) (sym (by_id_found old q)) ∙ sym (find-put_object row (by_id old) q)))))

take_found : (q : ℕ) (rest : Option Kept) (b : Bool) → row_found q (cond b None rest) ≡ cond b None (row_found q rest)
take_found q rest true = refl
take_found q rest false = refl

pub by_id_take : (old new : List Entry) (id : ℕ) → Changed old new id None → by_id new ≡ filter (is_other_object id) (by_id old)
by_id_take old new id changed =
    rows_one (by_id new) (filter (is_other_object id) (by_id old)) (by_id_rise new) (objects_rise_filter id (by_id old) (by_id_rise old))
    (λ q. by_id_found new q ∙ (ap (row_found q) (changed q) ∙ (take_found q (found old q) (eqb id q)
    ∙ (ap (cond (eqb id q) None) (sym (by_id_found old q)) ∙ sym (find-filter_object id (by_id old) q)))))

new_row : (id at size q : ℕ) (kept : Kept) (b : Bool) → eqb q id ≡ b → rewritten id at size (row_of q kept) ≡ cond b (row_of q (record kept { at = at; size = size })) (row_of q kept)
new_row id at size q kept true is = ap (λ (b : Bool). cond b (record (row_of q kept) { at = at; size = size }) (row_of q kept)) is
new_row id at size q kept false is = ap (λ (b : Bool). cond b (record (row_of q kept) { at = at; size = size }) (row_of q kept)) is

here_found : (id at size q : ℕ) (rest : Option Kept) → eqb id q ≡ true → row_found q (renewed at size rest) ≡ option_map (rewritten id at size) (row_found q rest)
here_found id at size q None is = refl
here_found id at size q (Some kept) is = ap (λ (r : ObjectRow). Some r) (sym (new_row id at size q kept true (turned q id ∙ is)))

other_found : (id at size q : ℕ) (rest : Option Kept) → eqb id q ≡ false → row_found q rest ≡ option_map (rewritten id at size) (row_found q rest)
other_found id at size q None is = refl
other_found id at size q (Some kept) is = ap (λ (r : ObjectRow). Some r) (sym (new_row id at size q kept false (turned q id ∙ is)))

renewed_found : (old : List Entry) (id at size q : ℕ) (b : Bool) → eqb id q ≡ b →
    row_found q (cond b (renewed at size (found old id)) (found old q)) ≡ option_map (rewritten id at size) (row_found q (found old q))
renewed_found old id at size q true is =
    ap (λ (n : ℕ). row_found q (renewed at size (found old n))) (eqb-true id q is) ∙ here_found id at size q (found old q) is
renewed_found old id at size q false is = other_found id at size q (found old q) is

pub by_id_rewritten : (old new : List Entry) (id at size : ℕ) → Changed old new id (renewed at size (found old id)) → by_id new ≡ map (rewritten id at size) (by_id old)
by_id_rewritten old new id at size changed =
    rows_one (by_id new) (map (rewritten id at size) (by_id old)) (by_id_rise new) (objects_rise_rewritten id at size (by_id old) (by_id_rise old))
    (λ q. by_id_found new q ∙ (ap (row_found q) (changed q) ∙ (renewed_found old id at size q (eqb id q) refl
    ∙ (ap (option_map (rewritten id at size)) (sym (by_id_found old q)) ∙ sym (find-rewritten id at size (by_id old) q)))))

-- nothing to renew changes nothing
pub none_renewed : (es : List Entry) (id at size q : ℕ) → None ≡ found es id → found es q ≡ cond (nat_eq id q) (renewed at size (found es id)) (found es q)
none_renewed es id at size q none = go (eqb id q) refl
  where
    go : (b : Bool) → eqb id q ≡ b → found es q ≡ cond b (renewed at size (found es id)) (found es q)
    go true is = ap (λ (n : ℕ). found es n) (sym (eqb-true id q is)) ∙ (sym none ∙ ap (renewed at size) none)
    go false is = refl

-- a table whose ids are sorted is seen as it is

next_above : (a b : ℕ) → is_lt (nat_cmp b a) ≡ false → eqb a b ≡ false → ltb a b ≡ true
next_above a b least apart = grind (arith, nat_tests, common_steps)

rise_adjacent : (es : List Entry) → ((k : ℕ) → suc k < length (keys_of es) → ltb (get_or (keys_of es) k 0) (get_or (keys_of es) (suc k) 0) ≡ true) →
    objects_rise (map row_of_entry es) ≡ true
rise_adjacent [] above = refl
rise_adjacent (e ∷ []) above = refl
rise_adjacent (e ∷ f ∷ es) above =
    and_from (ltb e.0 f.0) (objects_rise (map row_of_entry (f ∷ es))) (above 0 (omega arith))
    (rise_adjacent (f ∷ es) (λ k within. above (suc k) (omega arith)))

row_here : (es : List Entry) (q : ℕ) → find (has_id q) (map row_of_entry es) ≡ row_found q (found es q)
row_here [] q = refl
row_here (e ∷ es) q =
    ap (cond (eqb e.0 q) (Some (row_of e.0 e.1))) (row_here es q)
    ∙ (found_more e.0 q e.1 (found es q) (eqb e.0 q) refl
    ∙ ap (λ (b : Bool). row_found q (cond b (Some e.1) (found es q))) (turned e.0 q))

pub sorted_is : (table sorted : List Entry) → IsSorted nat_cmp (keys_of sorted) → IsDistinct nat_eq (keys_of sorted) →
    ((q : ℕ) → found sorted q ≡ found table q) → map row_of_entry sorted ≡ by_id table
sorted_is table sorted order distinct same =
    rows_one (map row_of_entry sorted) (by_id table)
    (rise_adjacent sorted (λ k within.
    subst (λ (n : ℕ). ltb (get_or (keys_of sorted) k 0) (get_or (keys_of sorted) n 0) ≡ true) (add-one k)
    (next_above (get_or (keys_of sorted) k 0) (get_or (keys_of sorted) (k + 1) 0) (order k 0 (omega arith) (omega arith))
    (apart_from_distinct nat_eq (keys_of sorted) k (k + 1) 0 distinct (omega arith) (omega arith)))))
    (by_id_rise table) (λ q. row_here sorted q ∙ (ap (row_found q) (same q) ∙ sym (by_id_found table q)))

-- a copy whose ids and rows are copies is the same

pub entries_copied : (C : ℕ → ℕ → Type 0) (D : Kept → Kept → Type 0) → (es fs : List Entry) → AllZip (λ p q. C p.0 q.0 × D p.1 q.1) es fs →
    ((x y : ℕ) → C x y → y ≡ x) → ((x y : Kept) → D x y → y ≡ x) → fs ≡ es
entries_copied C D [] [] all keys kept = refl
entries_copied C D [] (f ∷ fs) all keys kept = absurd all
entries_copied C D (e ∷ es) [] all keys kept = absurd all
entries_copied C D (e ∷ es) (f ∷ fs) all keys kept =
    ap (λ (x : Entry). x ∷ fs) (λ i. (keys e.0 f.0 all.0.0 i, kept e.1 f.1 all.0.1 i)) ∙ ap (λ (rest : List Entry). e ∷ rest) (entries_copied C D es fs all.1 keys kept)
