-- Rows in tables by id modulo 16: what is found in all, and what a change of one table makes of all.
use Rattle.std.proofs.Common.{◌≡◌, ◌≢◌, ℕ, zero, suc, ◌<◌, ◌≤◌, ◌%◌, Bool, true, false, cond, eqb, Option, Some, None, List, [], ◌∷◌, ◌++◌, length, get_or, drop, map, refl, sym, ap, subst, ◌∙◌, arith}
use Rattle.std.proofs.lemmas.Bool.Decides.{nat_tests}
use Rattle.std.proofs.lemmas.Bool.{eqb-true}
use Rattle.std.proofs.Math.ListN.{set}
use Rattle.std.specs.Prelude.{find, filter, Result, Ok, Err, OnOk}
use Rattle.std.specs.Option.{option_map}
use Rattle.delf_model.specs.declared.rows.ObjectRow.{ObjectRow}
use Rattle.delf_model.specs.Graph.{has_id, put_object, is_other_object, rewritten, objects_rise}
use Rattle.delf_model.proofs.Graphs.{find-put_object, find-filter_object, find-rewritten}
use Rattle.object_shards.specs.Table.{TableSeen}
use Rattle.object_shards.specs.Tables.{rows_at, room_at, all_put, joined, InShards}
use Rattle.object_shards.proofs.ById.{rows_one}
use Rattle.object_shards.proofs.Ids.{objects_rise_put, objects_rise_filter, objects_rise_rewritten}

-- what is found among rows and those that they are put among

abbrev first_of : Option ObjectRow → Option ObjectRow → Option ObjectRow
first_of None o = o
first_of (Some row) o = Some row

pushed : (b : Bool) (row : ObjectRow) (rest o : Option ObjectRow) → cond b (Some row) (first_of rest o) ≡ first_of (cond b (Some row) rest) o
pushed true row rest o = refl
pushed false row rest o = refl

or_none : (o : Option ObjectRow) → first_of o None ≡ o
or_none None = refl
or_none (Some row) = refl

find_all_put : (xs rows : List ObjectRow) (q : ℕ) → find (has_id q) (all_put xs rows) ≡ first_of (find (has_id q) xs) (find (has_id q) rows)
find_all_put [] rows q = refl
find_all_put (x ∷ xs) rows q =
    find-put_object x (all_put xs rows) q
    ∙ (ap (cond (eqb x.id q) (Some x)) (find_all_put xs rows q) ∙ pushed (eqb x.id q) x (find (has_id q) xs) (find (has_id q) rows))

none_joined : (ts : List TableSeen) (q : ℕ) → ((k : ℕ) → find (has_id q) (rows_at ts k) ≡ None) → find (has_id q) (joined ts) ≡ None
none_joined [] q none = refl
none_joined (t ∷ ts) q none =
    find_all_put t.rows (joined ts) q
    ∙ (ap (λ (o : Option ObjectRow). first_of o (find (has_id q) (joined ts))) (none 0) ∙ none_joined ts q (λ k. none (suc k)))

find_joined : (ts : List TableSeen) (j q : ℕ) → ((k : ℕ) → k ≢ j → find (has_id q) (rows_at ts k) ≡ None) →
    find (has_id q) (joined ts) ≡ find (has_id q) (rows_at ts j)
find_joined [] j q none = refl
find_joined (t ∷ ts) zero q none =
    find_all_put t.rows (joined ts) q
    ∙ (ap (first_of (find (has_id q) t.rows)) (none_joined ts q (λ k. none (suc k) (λ same. omega arith))) ∙ or_none (find (has_id q) t.rows))
find_joined (t ∷ ts) (suc j) q none =
    find_all_put t.rows (joined ts) q
    ∙ (ap (λ (o : Option ObjectRow). first_of o (find (has_id q) (joined ts))) (none 0 (λ same. omega arith))
    ∙ find_joined ts j q (λ k other. none (suc k) (λ same. other (omega arith))))

pub found_joined : (ts : List TableSeen) (q : ℕ) → InShards ts → find (has_id q) (joined ts) ≡ find (has_id q) (rows_at ts (q % 16))
found_joined ts q shards = find_joined ts (q % 16) q (λ k other. shards k q other)

put_rise : (xs rows : List ObjectRow) → objects_rise rows ≡ true → objects_rise (all_put xs rows) ≡ true
put_rise [] rows rise = rise
put_rise (x ∷ xs) rows rise = objects_rise_put x (all_put xs rows) (put_rise xs rows rise)

pub joined_rise : (ts : List TableSeen) → objects_rise (joined ts) ≡ true
joined_rise [] = refl
joined_rise (t ∷ ts) = put_rise t.rows (joined ts) (joined_rise ts)

-- tables without rows

pub none_in_shards : (ts : List TableSeen) → ((table : ℕ) → rows_at ts table ≡ []) → InShards ts
none_in_shards ts none = λ table id other. ap (λ (rows : List ObjectRow). find (has_id id) rows) (none table)

pub none_more : (ts : List TableSeen) (t : TableSeen) → t.rows ≡ [] → ((table : ℕ) → rows_at ts table ≡ []) →
    (table : ℕ) → rows_at (ts ++ t ∷ []) table ≡ []
none_more [] t empty none zero = empty
none_more [] t empty none (suc table) = refl
none_more (x ∷ ts) t empty none zero = none 0
none_more (x ∷ ts) t empty none (suc table) = none_more ts t empty (λ k. none (suc k)) table

pub none_is_joined : (ts : List TableSeen) → ((table : ℕ) → rows_at ts table ≡ []) → joined ts ≡ []
none_is_joined [] none = refl
none_is_joined (t ∷ ts) none =
    ap (λ (rows : List ObjectRow). all_put rows (joined ts)) (none 0) ∙ none_is_joined ts (λ table. none (suc table))

-- one table of a list

pub rows_get : (ts : List TableSeen) (k : ℕ) (t : TableSeen) → k < length ts → t ≡ get_or ts k t → rows_at ts k ≡ t.rows
rows_get [] k t below is = absurd (omega arith)
rows_get (x ∷ ts) zero t below is = ap (λ (s : TableSeen). s.rows) (sym is)
rows_get (x ∷ ts) (suc k) t below is = rows_get ts k t (omega arith) is

pub room_get : (ts : List TableSeen) (k : ℕ) (t : TableSeen) → k < length ts → t ≡ get_or ts k t → room_at ts k ≡ t.room
room_get [] k t below is = absurd (omega arith)
room_get (x ∷ ts) zero t below is = ap (λ (s : TableSeen). s.room) (sym is)
room_get (x ∷ ts) (suc k) t below is = room_get ts k t (omega arith) is

rows_here : (ts : List TableSeen) (k : ℕ) (new : TableSeen) → k < length ts → rows_at (set ts k new) k ≡ new.rows
rows_here [] k new below = absurd (omega arith)
rows_here (x ∷ ts) zero new below = refl
rows_here (x ∷ ts) (suc k) new below = rows_here ts k new (omega arith)

rows_there : (ts : List TableSeen) (k m : ℕ) (new : TableSeen) → m ≢ k → rows_at (set ts k new) m ≡ rows_at ts m
rows_there [] zero m new other = refl
rows_there [] (suc k) m new other = refl
rows_there (x ∷ ts) zero zero new other = absurd (other refl)
rows_there (x ∷ ts) zero (suc m) new other = refl
rows_there (x ∷ ts) (suc k) zero new other = refl
rows_there (x ∷ ts) (suc k) (suc m) new other = rows_there ts k m new (λ same. other (ap suc same))

pub room_here : (ts : List TableSeen) (k : ℕ) (new : TableSeen) → k < length ts → room_at (set ts k new) k ≡ new.room
room_here [] k new below = absurd (omega arith)
room_here (x ∷ ts) zero new below = refl
room_here (x ∷ ts) (suc k) new below = room_here ts k new (omega arith)

pub room_kept : (ts : List TableSeen) (k : ℕ) (t new : TableSeen) → k < length ts → t ≡ get_or ts k t → t.room ≤ new.room →
    (m : ℕ) → room_at ts m ≤ room_at (set ts k new) m
room_kept [] k t new below is more m = absurd (omega arith)
room_kept (x ∷ ts) zero t new below is more zero = let same = ap (λ (s : TableSeen). s.room) is in omega arith
room_kept (x ∷ ts) zero t new below is more (suc m) = omega arith
room_kept (x ∷ ts) (suc k) t new below is more zero = omega arith
room_kept (x ∷ ts) (suc k) t new below is more (suc m) = room_kept ts k t new (omega arith) is more m

pub room_made : (ts : List TableSeen) (k n : ℕ) (new : TableSeen) → k ≡ n → k < length ts → 0 < new.room → 0 < room_at (set ts k new) n
room_made ts k n new at below some =
    subst (λ (m : ℕ). 0 < room_at (set ts k new) m) at (let here = room_here ts k new below in omega arith)

pub on_ok : {A E : Type 0} (result : Result A E) (P Q : Type 0) → (P → Q) → OnOk result P → OnOk result Q
on_ok (Ok value) P Q more told = more told
on_ok (Err error) P Q more told = tt

pub more_joined : (ts : List TableSeen) (k : ℕ) (t : TableSeen) → k < length ts → t ≡ get_or ts k t →
    joined (drop k ts) ≡ all_put t.rows (joined (drop (suc k) ts))
more_joined [] k t below is = absurd (omega arith)
more_joined (x ∷ ts) zero t below is = ap (λ (s : TableSeen). all_put s.rows (joined ts)) (sym is)
more_joined (x ∷ ts) (suc k) t below is = more_joined ts k t (omega arith) is

pub more_put : (xs : List ObjectRow) (rows : List ObjectRow) (k : ℕ) (x : ObjectRow) → k < length xs → x ≡ get_or xs k x →
    all_put (drop k xs) rows ≡ put_object x (all_put (drop (suc k) xs) rows)
more_put [] rows k x below is = absurd (omega arith)
more_put (y ∷ ys) rows zero x below is = ap (λ (r : ObjectRow). put_object r (all_put ys rows)) (sym is)
more_put (y ∷ ys) rows (suc k) x below is = more_put ys rows k x (omega arith) is

-- a change of rows that turns what is found of one id alone

pub record Turns (id : ℕ) (f : List ObjectRow → List ObjectRow) : Type 0 where
  pub turn : ℕ → Option ObjectRow → Option ObjectRow
  pub finds : (rows : List ObjectRow) (q : ℕ) → find (has_id q) (f rows) ≡ turn q (find (has_id q) rows)
  pub keeps : (q : ℕ) (o : Option ObjectRow) → eqb id q ≡ false → turn q o ≡ o
  pub rises : (rows : List ObjectRow) → objects_rise rows ≡ true → objects_rise (f rows) ≡ true

pub put_turns : (row : ObjectRow) → Turns row.id (put_object row)
put_turns row = record {
  turn = λ q o. cond (eqb row.id q) (Some row) o;
  finds = find-put_object row;
  keeps = λ q o other. ap (λ (b : Bool). cond b (Some row) o) other;
  rises = objects_rise_put row;
}

pub take_turns : (id : ℕ) → Turns id (filter (is_other_object id))
take_turns id = record {
  turn = λ q o. cond (eqb id q) None o;
  finds = find-filter_object id;
  keeps = λ q o other. ap (λ (b : Bool). cond b None o) other;
  rises = objects_rise_filter id;
}

self : (a : ℕ) → eqb a a ≡ true
self a = grind (arith, nat_tests)

turned : (a b : ℕ) → eqb a b ≡ eqb b a
turned a b = grind (arith, nat_tests)

same_row : (id at size : ℕ) (x : ObjectRow) → eqb x.id id ≡ false → rewritten id at size x ≡ x
same_row id at size x is = ap (λ (b : Bool). cond b (record x { at = at; size = size }) x) is

other_kept : (id at size q : ℕ) (rows : List ObjectRow) → eqb id q ≡ false →
    option_map (rewritten id at size) (find (has_id q) rows) ≡ find (has_id q) rows
other_kept id at size q [] other = refl
other_kept id at size q (x ∷ xs) other = go (eqb x.id q) refl (other_kept id at size q xs other)
  where
    go : (b : Bool) → eqb x.id q ≡ b → option_map (rewritten id at size) (find (has_id q) xs) ≡ find (has_id q) xs →
        option_map (rewritten id at size) (cond b (Some x) (find (has_id q) xs)) ≡ cond b (Some x) (find (has_id q) xs)
    go true is more =
        ap (λ (r : ObjectRow). Some r) (same_row id at size x (ap (λ (n : ℕ). eqb n id) (eqb-true x.id q is) ∙ (turned q id ∙ other)))
    go false is more = more

pub rewrite_turns : (id at size : ℕ) → Turns id (map (rewritten id at size))
rewrite_turns id at size = record {
  turn = λ q o. cond (eqb id q) (option_map (rewritten id at size) o) o;
  finds = λ rows q. find-rewritten id at size rows q ∙ go rows q (eqb id q) refl;
  keeps = λ q o other. ap (λ (b : Bool). cond b (option_map (rewritten id at size) o) o) other;
  rises = objects_rise_rewritten id at size;
}
  where
    go : (rows : List ObjectRow) (q : ℕ) (b : Bool) → eqb id q ≡ b →
        option_map (rewritten id at size) (find (has_id q) rows) ≡ cond b (option_map (rewritten id at size) (find (has_id q) rows)) (find (has_id q) rows)
    go rows q true is = refl
    go rows q false is = other_kept id at size q rows is

pub no_turns : (id : ℕ) → Turns id (λ rows. rows)
no_turns id = record { turn = λ q o. o; finds = λ rows q. refl; keeps = λ q o other. refl; rises = λ rows rise. rise }

-- such a change of the table of its id is that of all rows

unequal : (a b : ℕ) → eqb a b ≡ false → a ≢ b
unequal a b is same = let no : false ≡ true = sym is ∙ (ap (λ (n : ℕ). eqb n b) same ∙ self b) in absurd (cc)

apart : (id q place : ℕ) (b : Bool) → eqb id q ≡ b → place ≡ id % 16 → place ≢ q % 16 → b ≡ false
apart id q place true is at other = absurd (other (at ∙ ap (λ (n : ℕ). n % 16) (eqb-true id q is)))
apart id q place false is at other = refl

here_turned : (id place : ℕ) (f : List ObjectRow → List ObjectRow) (turns : Turns id f) (old : List TableSeen) (t new : TableSeen) → place < length old →
    t ≡ get_or old place t → new.rows ≡ f t.rows → (q : ℕ) → find (has_id q) (rows_at (set old place new) place) ≡ turns.turn q (find (has_id q) (rows_at old place))
here_turned id place f turns old t new below is made q =
    ap (λ (rows : List ObjectRow). find (has_id q) rows) (rows_here old place new below ∙ (made ∙ ap f (sym (rows_get old place t below is))))
    ∙ turns.finds (rows_at old place) q

pub changed_shards : (id place : ℕ) (f : List ObjectRow → List ObjectRow) → Turns id f → (old : List TableSeen) (t new : TableSeen) → place ≡ id % 16 → place < length old →
    t ≡ get_or old place t → new.rows ≡ f t.rows → InShards old → InShards (set old place new)
changed_shards id place f turns old t new at below is made shards = λ m q other. go m q other (eqb m place) refl
  where
    go : (m q : ℕ) → m ≢ q % 16 → (b : Bool) → eqb m place ≡ b → find (has_id q) (rows_at (set old place new) m) ≡ None
    go m q other true same =
        let here : m ≡ place = eqb-true m place same in
        let away : place ≢ q % 16 = λ equal. other (here ∙ equal) in
        ap (λ (k : ℕ). find (has_id q) (rows_at (set old place new) k)) here
        ∙ (here_turned id place f turns old t new below is made q
        ∙ (ap (turns.turn q) (shards place q away) ∙ turns.keeps q None (apart id q place (eqb id q) refl at away)))
    go m q other false same =
        ap (λ (rows : List ObjectRow). find (has_id q) rows) (rows_there old place m new (unequal m place same))
        ∙ shards m q other

pub changed_rows : (id place : ℕ) (f : List ObjectRow → List ObjectRow) → Turns id f → (old : List TableSeen) (t new : TableSeen) → place ≡ id % 16 → place < length old →
    t ≡ get_or old place t → new.rows ≡ f t.rows → InShards old → joined (set old place new) ≡ f (joined old)
changed_rows id place f turns old t new at below is made shards =
    rows_one (joined (set old place new)) (f (joined old)) (joined_rise (set old place new)) (turns.rises (joined old) (joined_rise old))
    (λ q. found_joined (set old place new) q (changed_shards id place f turns old t new at below is made shards)
    ∙ (step q (eqb (q % 16) place) refl
    ∙ sym (turns.finds (joined old) q ∙ ap (turns.turn q) (found_joined old q shards))))
  where
    step : (q : ℕ) (b : Bool) → eqb (q % 16) place ≡ b →
        find (has_id q) (rows_at (set old place new) (q % 16)) ≡ turns.turn q (find (has_id q) (rows_at old (q % 16)))
    step q true same =
        subst (λ (k : ℕ). find (has_id q) (rows_at (set old place new) k) ≡ turns.turn q (find (has_id q) (rows_at old k))) (sym (eqb-true (q % 16) place same))
        (here_turned id place f turns old t new below is made q)
    step q false same =
        let away : q % 16 ≢ place = unequal (q % 16) place same in
        ap (λ (rows : List ObjectRow). find (has_id q) rows) (rows_there old place (q % 16) new away)
        ∙ sym (turns.keeps q (find (has_id q) (rows_at old (q % 16))) (apart id q place (eqb id q) refl at (λ equal. away (sym equal))))

-- what is found in the table of an id
pub found_here : (ts : List TableSeen) (id place : ℕ) (t : TableSeen) → place ≡ id % 16 → place < length ts → t ≡ get_or ts place t → InShards ts →
    find (has_id id) t.rows ≡ find (has_id id) (joined ts)
found_here ts id place t at below is shards =
    ap (λ (rows : List ObjectRow). find (has_id id) rows) (sym (rows_get ts place t below is) ∙ ap (rows_at ts) at) ∙ sym (found_joined ts id shards)
