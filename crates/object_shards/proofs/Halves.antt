-- A shard that is parted in two halves of its rows.
use Rattle.std.proofs.Common.{◌≡◌, ℕ, zero, suc, ◌+◌, ◌/◌, ◌≤◌, ◌<◌, Bool, true, false, cond, ltb, Option, Some, None, List, [], ◌∷◌, ◌++◌, length, get_or, take, drop, refl, sym, ap, subst, ◌∙◌, add-one, arith}
use Rattle.std.proofs.Math.ListN.{set}
use Rattle.std.proofs.lemmas.Bool.Decides.{nat_tests}
use Rattle.std.proofs.lemmas.Bool.{and_parts}
use Rattle.std.proofs.lemmas.List.{append_assoc}
use Rattle.std.specs.Prelude.{slice_get}
use Rattle.std.specs.List.{insert}
use Rattle.delf_model.specs.declared.rows.ObjectRow.{ObjectRow}
use Rattle.delf_model.specs.Graph.{rises_after, objects_rise}
use Rattle.delf_model.specs.Store.{id_of_row}
use Rattle.object_shards.specs.declared.shard.Shard.{Shard}
use Rattle.object_shards.specs.Rows.{ids_within}
use Rattle.object_shards.specs.Shards.{rows_of, start, stand, shard_place, has_room, ready_in}
use Rattle.object_shards.proofs.Ids.{rise_rest}
use Rattle.object_shards.proofs.Within.{first_of_within, within_from, within_wider}
use Rattle.object_shards.proofs.Parts.{stands_first, stands_from, stands_beside, got_at}

rises_above : (low : ℕ) (xs : List ObjectRow) (k : ℕ) (row : ObjectRow) → rises_after low xs ≡ true → slice_get xs k ≡ Some row → low < row.id
rises_above low [] k row rise is = absurd (cc is)
rises_above low (x ∷ xs) zero row rise is =
    let parts = and_parts (ltb low x.id) (rises_after x.id xs) rise in
    let same : x ≡ row = cc is in
    let eq : x.id ≡ row.id = ap (λ (r : ObjectRow). r.id) same in grind (arith, nat_tests, parts.0)
rises_above low (x ∷ xs) (suc k) row rise is =
    let parts = and_parts (ltb low x.id) (rises_after x.id xs) rise in
    let first : low < x.id = grind (arith, nat_tests, parts.0) in
    let more : x.id < row.id = rises_above x.id xs k row parts.1 is in omega arith

rises_within : (bound low high : ℕ) (xs : List ObjectRow) → rises_after bound xs ≡ true → ids_within low high xs ≡ true → ids_within bound high xs ≡ true
rises_within bound low high [] rise w = refl
rises_within bound low high (x ∷ xs) rise w =
    let parts = and_parts (ltb bound x.id) (rises_after x.id xs) rise in
    let first = first_of_within low high x xs w in
    let above : bound < x.id = grind (arith, nat_tests, parts.0) in
    within_from bound high x xs (omega arith) first.below
    (within_wider x.id high bound high xs (omega arith) (omega arith) (rises_within x.id low high xs parts.1 first.rest))

within_at : (low high : ℕ) (xs : List ObjectRow) (k : ℕ) (row : ObjectRow) → ids_within low high xs ≡ true → slice_get xs k ≡ Some row →
    (low ≤ row.id) × (row.id < high)
within_at low high [] k row w is = absurd (cc is)
within_at low high (x ∷ xs) zero row w is =
    let first = first_of_within low high x xs w in
    let same : x ≡ row = cc is in
    (subst (λ (r : ObjectRow). low ≤ r.id) same first.above, subst (λ (r : ObjectRow). r.id < high) same first.below)
within_at low high (x ∷ xs) (suc k) row w is = within_at low high xs k row (first_of_within low high x xs w).rest is

under_middle : (low high : ℕ) (xs : List ObjectRow) (k : ℕ) (row : ObjectRow) → objects_rise xs ≡ true → ids_within low high xs ≡ true →
    slice_get xs k ≡ Some row → ids_within low row.id (take k xs) ≡ true
under_middle low high [] k row rise w is = absurd (cc is)
under_middle low high (x ∷ xs) zero row rise w is = refl
under_middle low high (x ∷ xs) (suc k) row rise w is =
    let first = first_of_within low high x xs w in
    within_from low row.id x (take k xs) first.above (rises_above x.id xs k row rise is)
    (under_middle low high xs k row (rise_rest x.id xs rise) first.rest is)

over_middle : (low high : ℕ) (xs : List ObjectRow) (k : ℕ) (row : ObjectRow) → objects_rise xs ≡ true → ids_within low high xs ≡ true →
    slice_get xs k ≡ Some row → ids_within row.id high (drop k xs) ≡ true
over_middle low high [] k row rise w is = absurd (cc is)
over_middle low high (x ∷ xs) zero row rise w is =
    let first = first_of_within low high x xs w in
    let same : x ≡ row = cc is in
    subst (λ (r : ObjectRow). ids_within r.id high (x ∷ xs) ≡ true) same
    (within_from x.id high x xs (omega arith) first.below (rises_within x.id low high xs rise first.rest))
over_middle low high (x ∷ xs) (suc k) row rise w is =
    over_middle low high xs k row (rise_rest x.id xs rise) (first_of_within low high x xs w).rest is

above_first : (low high : ℕ) (xs : List ObjectRow) (k : ℕ) (row : ObjectRow) → objects_rise xs ≡ true → ids_within low high xs ≡ true →
    slice_get xs (suc k) ≡ Some row → low < row.id
above_first low high [] k row rise w is = absurd (cc is)
above_first low high (x ∷ xs) k row rise w is =
    let first = first_of_within low high x xs w in
    let above = first.above in
    let more : x.id < row.id = rises_above x.id xs k row rise is in omega arith

take_drop : {X : Type 0} (k : ℕ) (xs : List X) → take k xs ++ drop k xs ≡ xs
take_drop zero [] = refl
take_drop (suc k) [] = refl
take_drop zero (x ∷ xs) = refl
take_drop (suc k) (x ∷ xs) = ap (λ ys. x ∷ ys) (take_drop k xs)

-- the two halves of a shard in its place
pub record Parted (old new : List Shard) (id : ℕ) : Type 0 where
  pub rows : rows_of new ≡ rows_of old
  pub order : stand new ≡ true
  pub begins : start new ≡ start old
  pub kept : ready_in id old ≡ true → ready_in id new ≡ true

pub record AreHalves (s lower upper : Shard) (m : ℕ) (row : ObjectRow) : Type 0 where
  pub middle : slice_get s.rows.items (suc m) ≡ Some row
  pub full : has_room s ≡ false
  pub low : lower.low ≡ s.low
  pub lower_rows : lower.rows.items ≡ take (suc m) s.rows.items
  pub lower_room : has_room lower ≡ true
  pub middle_low : row.id ≡ upper.low
  pub upper_rows : upper.rows.items ≡ drop (suc m) s.rows.items
  pub upper_room : has_room upper ≡ true

pub parted : (ss : List Shard) (k id : ℕ) (s lower upper : Shard) (m : ℕ) (row : ObjectRow) → stand ss ≡ true → slice_get ss k ≡ Some s →
    AreHalves s lower upper m row → Parted ss (insert (set ss k lower) (suc k) upper) id
parted [] k id s lower upper m row h is halves = absurd (cc is)
parted (x ∷ xs) zero id s lower upper m row h is halves =
    let first = stands_first x xs h in
    let same : x ≡ s = cc is in
    let rise : objects_rise x.rows.items ≡ true = x.ids_rise in
    let at : slice_get x.rows.items (suc m) ≡ Some row = ap (λ (t : Shard). slice_get t.rows.items (suc m)) same ∙ halves.middle in
    let above : x.low < row.id = above_first x.low (start xs) x.rows.items m row rise first.inside at in
    let below : row.id < start xs = (within_at x.low (start xs) x.rows.items (suc m) row first.inside at).1 in
    let low_is : lower.low ≡ x.low = halves.low ∙ ap (λ (t : Shard). t.low) (sym same) in
    let upper_is : upper.low ≡ row.id = sym halves.middle_low in
    let lower_rows : lower.rows.items ≡ take (suc m) x.rows.items = halves.lower_rows ∙ ap (λ (t : Shard). take (suc m) t.rows.items) (sym same) in
    let upper_rows : upper.rows.items ≡ drop (suc m) x.rows.items = halves.upper_rows ∙ ap (λ (t : Shard). drop (suc m) t.rows.items) (sym same) in
    let full : has_room x ≡ false = ap has_room same ∙ halves.full in
    record {
      rows = ap (λ (rs : List ObjectRow). rs ++ (upper.rows.items ++ rows_of xs)) lower_rows ∙
          (ap (λ (rs : List ObjectRow). take (suc m) x.rows.items ++ (rs ++ rows_of xs)) upper_rows ∙
          (sym (append_assoc (take (suc m) x.rows.items) (drop (suc m) x.rows.items) (rows_of xs)) ∙
          ap (λ (rs : List ObjectRow). rs ++ rows_of xs) (take_drop (suc m) x.rows.items)));
      order = stands_from lower (upper ∷ xs) (omega arith)
          (subst (λ (n : ℕ). ids_within n upper.low lower.rows.items ≡ true) (sym low_is)
          (subst (λ (n : ℕ). ids_within x.low n lower.rows.items ≡ true) (sym upper_is)
          (subst (λ (rs : List ObjectRow). ids_within x.low row.id rs ≡ true) (sym lower_rows)
          (under_middle x.low (start xs) x.rows.items (suc m) row rise first.inside at))))
          (stands_from upper xs (omega arith)
          (subst (λ (n : ℕ). ids_within n (start xs) upper.rows.items ≡ true) (sym upper_is)
          (subst (λ (rs : List ObjectRow). ids_within row.id (start xs) rs ≡ true) (sym upper_rows)
          (over_middle x.low (start xs) x.rows.items (suc m) row rise first.inside at))) first.rest);
      begins = low_is;
      kept = λ ready. ready_parted (ltb id upper.low) (ltb id (start xs)) (has_room x) (has_room lower) (has_room upper) (ready_in id xs)
          full halves.lower_room halves.upper_room ready;
    }
  where
    ready_parted : (under before old lower upper more : Bool) → old ≡ false → lower ≡ true → upper ≡ true → cond before old more ≡ true →
        cond under lower (cond before upper more) ≡ true
    ready_parted true before old lower upper more full first second ready = first
    ready_parted false true old lower upper more full first second ready = second
    ready_parted false false old lower upper more full first second ready = ready
parted (x ∷ xs) (suc k) id s lower upper m row h is halves =
    let first = stands_first x xs h in
    let more = parted xs k id s lower upper m row first.rest is halves in
    record {
      rows = ap (λ (rs : List ObjectRow). x.rows.items ++ rs) more.rows;
      order = stands_beside x x xs (insert (set xs k lower) (suc k) upper) refl more.begins first.apart first.inside more.order;
      begins = refl;
      kept = λ ready. kept_beside (start (insert (set xs k lower) (suc k) upper)) (start xs) more.begins ready more.kept;
    }
  where
    kept_beside : (new old : ℕ) → new ≡ old → cond (ltb id old) (has_room x) (ready_in id xs) ≡ true →
        (ready_in id xs ≡ true → ready_in id (insert (set xs k lower) (suc k) upper) ≡ true) →
        cond (ltb id new) (has_room x) (ready_in id (insert (set xs k lower) (suc k) upper)) ≡ true
    kept_beside new old same ready rest =
        ap (λ (n : ℕ). cond (ltb id n) (has_room x) (ready_in id (insert (set xs k lower) (suc k) upper))) same ∙
        either (ltb id old) ready rest
      where
        either : (b : Bool) → cond b (has_room x) (ready_in id xs) ≡ true →
            (ready_in id xs ≡ true → ready_in id (insert (set xs k lower) (suc k) upper) ≡ true) →
            cond b (has_room x) (ready_in id (insert (set xs k lower) (suc k) upper)) ≡ true
        either true ready rest = ready
        either false ready rest = rest ready

-- the ids of the parted shard are ready
pub parted_ready : (ss : List Shard) (k id : ℕ) (s lower upper : Shard) (m : ℕ) (row : ObjectRow) → stand ss ≡ true → slice_get ss k ≡ Some s →
    AreHalves s lower upper m row → shard_place id ss ≡ k → ready_in id (insert (set ss k lower) (suc k) upper) ≡ true
parted_ready [] k id s lower upper m row h is halves place = absurd (cc is)
parted_ready (x ∷ xs) zero id s lower upper m row h is halves place = go (ltb id upper.low) (ltb id (start xs)) place
  where
    go : (under before : Bool) → cond before 0 (suc (shard_place id xs)) ≡ 0 →
        cond under (has_room lower) (cond before (has_room upper) (ready_in id xs)) ≡ true
    go true before at = halves.lower_room
    go false true at = halves.upper_room
    go false false at = absurd (omega arith)
parted_ready (x ∷ xs) (suc k) id s lower upper m row h is halves place =
    go (start (insert (set xs k lower) (suc k) upper)) (start xs) (ltb id (start xs)) refl
    (parted xs k id s lower upper m row (stands_first x xs h).rest is halves).begins place
    (λ at. parted_ready xs k id s lower upper m row (stands_first x xs h).rest is halves at)
  where
    go : (new old : ℕ) (b : Bool) → ltb id old ≡ b → new ≡ old → cond b 0 (suc (shard_place id xs)) ≡ suc k →
        (shard_place id xs ≡ k → ready_in id (insert (set xs k lower) (suc k) upper) ≡ true) →
        cond (ltb id new) (has_room x) (ready_in id (insert (set xs k lower) (suc k) upper)) ≡ true
    go new old true before same at rest = absurd (omega arith)
    go new old false past same at rest =
        ap (λ (n : ℕ). cond (ltb id n) (has_room x) (ready_in id (insert (set xs k lower) (suc k) upper))) same ∙
        (ap (λ (b : Bool). cond b (has_room x) (ready_in id (insert (set xs k lower) (suc k) upper))) past ∙ rest (omega arith))

row_of : (found : Option ObjectRow) (low : ℕ) → id_of_row found ≡ Some low → (row : ObjectRow) × (found ≡ Some row) × (row.id ≡ low)
row_of None low is = absurd (cc is)
row_of (Some row) low is = (row, refl, cc is)

pub record IsParted (old new : List Shard) (place : ℕ) : Type 0 where
  pub each : (id : ℕ) → Parted old new id
  pub ready : (id : ℕ) → shard_place id old ≡ place → ready_in id new ≡ true

pub parted_at : (old reserved new : List Shard) (place : ℕ) (s seen lower upper : Shard) → stand old ≡ true → place < length old →
    s ≡ get_or old place s → reserved ≡ old → seen ≡ get_or reserved place seen → 2 ≤ length s.rows.items → has_room s ≡ false →
    lower.low ≡ seen.low → lower.rows.items ≡ take (length seen.rows.items / 2) seen.rows.items → has_room lower ≡ true →
    id_of_row (slice_get s.rows.items (length s.rows.items / 2)) ≡ Some upper.low →
    upper.rows.items ≡ drop (length s.rows.items / 2) s.rows.items → has_room upper ≡ true →
    new ≡ insert (set reserved place lower) (place + 1) upper → IsParted old new place
parted_at old reserved new place s seen lower upper h below is same there two full low lower_rows lower_room middle upper_rows upper_room changed =
    let at : slice_get old place ≡ Some s = got_at old place s s below is in
    let at_seen : slice_get old place ≡ Some seen =
    got_at old place seen seen below (there ∙ ap (λ (ss : List Shard). get_or ss place seen) same) in
    let one : seen ≡ s = cc in
    let found = row_of (slice_get s.rows.items (length s.rows.items / 2)) upper.low middle in
    go (length s.rows.items / 2) refl at one found.0 found.1 found.2
  where
    go : (half : ℕ) → half ≡ length s.rows.items / 2 → slice_get old place ≡ Some s → seen ≡ s → (row : ObjectRow) →
        slice_get s.rows.items (length s.rows.items / 2) ≡ Some row → row.id ≡ upper.low → IsParted old new place
    go zero half at one row found id = absurd (omega arith)
    go (suc m) half at one row found id =
        let halves : AreHalves s lower upper m row = record {
          middle = ap (λ (n : ℕ). slice_get s.rows.items n) half ∙ found;
          full = full;
          low = low ∙ ap (λ (t : Shard). t.low) one;
          lower_rows = lower_rows ∙ (ap (λ (t : Shard). take (length t.rows.items / 2) t.rows.items) one ∙ ap (λ (n : ℕ). take n s.rows.items) (sym half));
          lower_room = lower_room;
          middle_low = id;
          upper_rows = upper_rows ∙ ap (λ (n : ℕ). drop n s.rows.items) (sym half);
          upper_room = upper_room;
        } in
        let new_is : new ≡ insert (set old place lower) (suc place) upper =
        changed ∙ (ap (λ (ss : List Shard). insert (set ss place lower) (place + 1) upper) same ∙
        ap (λ (n : ℕ). insert (set old place lower) n upper) (add-one place)) in
        record {
          each = λ other. subst (λ (ss : List Shard). Parted old ss other) (sym new_is) (parted old place other s lower upper m row h at halves);
          ready = λ other falls. subst (λ (ss : List Shard). ready_in other ss ≡ true) (sym new_is)
              (parted_ready old place other s lower upper m row h at halves falls);
        }
