-- What goes in order after every legal history: ids, owners, starts, and the ends of an edge item before it.
use Rattle.std.proofs.Common.{◌≡◌, ℕ, zero, suc, ◌+◌, ◌≤◌, ◌<◌, Bool, true, false, cond, not, ◌&&◌, ◌||◌, eqb, ltb, leb, List, [], ◌∷◌, ◌++◌, Option, Some, None, refl, sym, ap, ◌∙◌, subst, arith, inl, inr, ◌⊎◌}
use Rattle.std.proofs.lemmas.Bool.{and_parts, and_from, eqb-true, eq-eqb, false≢true, ltb-true, lt-ltb, or_cases}
use Rattle.std.proofs.lemmas.Bool.Decides.{nat_tests}
use Rattle.std.specs.Prelude.{find, filter, map, is_some, is_none, slice_get, count_by}
use Rattle.delf_model.specs.declared.rows.ObjectRow.{ObjectRow}
use Rattle.delf_model.specs.declared.rows.EdgeKey.{EdgeKey}
use Rattle.delf_model.specs.declared.rows.EdgeRow.{EdgeRow}
use Rattle.delf_model.specs.declared.rows.Item.{Item}
use Rattle.delf_model.specs.declared.rows.Item.TheVariants as item
use Rattle.delf_model.specs.declared.call.Cause.{Cause}
use Rattle.delf_model.specs.declared.ids.JobName.{JobName}
use Rattle.delf_model.specs.declared.ids.JobName.TheVariants.{Named, Expiry}
use Rattle.delf_model.specs.declared.entry.Entry.{Entry}
use Rattle.delf_model.specs.declared.entry.Tag.{Tag}
use Rattle.delf_model.specs.declared.entry.What.{What}
use Rattle.delf_model.specs.declared.entry.What.TheVariants.{Create, Update, Link, Unlink, Delete, Restore, Expire, Cut, Erase, Put, Purge}
use Rattle.delf_model.specs.RuleSet.{RuleSet}
use Rattle.delf_model.specs.Graph.{Graph, Change, PutsObject, has_id, has_key, object_at, edge_at, edge_stands, stands, is_born_at, objects_rise, rises_after, put_object, rewritten, is_other_object, changed}
use Rattle.delf_model.specs.State.{State, Logged, Handled, JobRow, Owners, start, owner, owner_in, owns_of, is_owned_by, job_row, starts_at, job_of, is_restored}
use Rattle.delf_model.specs.Step.{step, run, after, graph_after, jobs_after, items_after, new_job, started_job, row_restored_at, purged_if, erased_at, edge_item, object_item, unhandled, handled_at, outcome, put_change, put_unless, birth_of, birth_of_row}
use Rattle.delf_model.specs.Owners.{unlink_start, key_of, owned_row, next_owner, owners_after, root_of_start, start_of}
use Rattle.delf_model.specs.Puts.{judged}
use Rattle.std.specs.Option.{option_or}
use Rattle.delf_model.specs.Legal.{is_legal, is_legal_from, is_allowed, Legal, is_end_item}
use Rattle.delf_model.proofs.Runs.{good_run}
use Rattle.delf_model.proofs.Lines.{allowed_of}
use Rattle.delf_model.proofs.Leaves.{owner_is}
use Rattle.std.proofs.lemmas.List.Sums.{sum_by-cons}
use Rattle.std.specs.Option.{option_map}
use Rattle.delf_model.proofs.Owners.{owner_from, found_id, found_key, stands_of, next_at}
use Rattle.delf_model.proofs.Plain.{plain_owner, owner_plain}
use Rattle.delf_model.proofs.Jobs.{job_row-started, job_row-restored, job_row-purged, job_row-erased}
use Rattle.delf_model.proofs.Sums.{count_found}
use Rattle.delf_model.proofs.Places.{one_if, waits, has_birth, is_object_born, places, EachItem, each_append, each_weaken, each_handled, each_at, HandledOf, may_put_of}
use Rattle.delf_model.proofs.Good.{Good, good_start, good_step, good_after}

-- rising ids

-- every id of these is above this one
abbrev pub Above : ℕ → List ObjectRow → Type 0
Above id [] = Unit {0}
Above id (x ∷ xs) = (id < x.id) × Above id xs

abbrev pub Rising : List ObjectRow → Type 0
Rising [] = Unit {0}
Rising (x ∷ xs) = Above x.id xs × Rising xs

above_less : (low id : ℕ) (xs : List ObjectRow) → low < id → Above id xs → Above low xs
above_less low id [] less above = tt
above_less low id (x ∷ xs) less above = (omega (arith, above.0), above_less low id xs less above.1)

put_above : (low : ℕ) (row : ObjectRow) (xs : List ObjectRow) → low < row.id → Above low xs → Above low (put_object row xs)
put_above low row [] less above = (less, tt)
put_above low row (x ∷ xs) less above = by_order (ltb row.id x.id) (eqb row.id x.id) (put_above low row xs less above.1)
  where
    by_order : (before same : Bool) → Above low (put_object row xs) → Above low (cond before (row ∷ (x ∷ xs)) (cond same (row ∷ xs) (x ∷ put_object row xs)))
    by_order true same IH = (less, above)
    by_order false true IH = (less, above.1)
    by_order false false IH = (above.0, IH)

put_rising : (row : ObjectRow) (xs : List ObjectRow) → Rising xs → Rising (put_object row xs)
put_rising row [] rises = (tt, tt)
put_rising row (x ∷ xs) rises = by_order (ltb row.id x.id) refl (eqb row.id x.id) refl (put_rising row xs rises.1)
  where
    by_order : (before : Bool) → ltb row.id x.id ≡ before → (same : Bool) → eqb row.id x.id ≡ same → Rising (put_object row xs) →
        Rising (cond before (row ∷ (x ∷ xs)) (cond same (row ∷ xs) (x ∷ put_object row xs)))
    by_order true is same at IH = ((ltb-true row.id x.id is, above_less row.id x.id xs (ltb-true row.id x.id is) rises.0), rises)
    by_order false is true at IH = (subst (λ (n : ℕ). Above n xs) (sym (eqb-true row.id x.id at)) rises.0, rises.1)
    by_order false is false at IH = (put_above x.id row xs (later (ltb row.id x.id) (eqb row.id x.id) is at) rises.0, IH)
      where
        later : (b c : Bool) → ltb row.id x.id ≡ false → eqb row.id x.id ≡ false → x.id < row.id
        later b c one two = grind (arith, nat_tests)

filter_above : (low : ℕ) (p : ObjectRow → Bool) (xs : List ObjectRow) → Above low xs → Above low (filter p xs)
filter_above low p [] above = tt
filter_above low p (x ∷ xs) above = by_kept (p x) (filter_above low p xs above.1)
  where
    by_kept : (b : Bool) → Above low (filter p xs) → Above low (cond b (x ∷ filter p xs) (filter p xs))
    by_kept true IH = (above.0, IH)
    by_kept false IH = IH

filter_rising : (p : ObjectRow → Bool) (xs : List ObjectRow) → Rising xs → Rising (filter p xs)
filter_rising p [] rises = tt
filter_rising p (x ∷ xs) rises = by_kept (p x) (filter_rising p xs rises.1)
  where
    by_kept : (b : Bool) → Rising (filter p xs) → Rising (cond b (x ∷ filter p xs) (filter p xs))
    by_kept true IH = (filter_above x.id p xs rises.0, IH)
    by_kept false IH = IH

map_above : (low : ℕ) (f : ObjectRow → ObjectRow) (xs : List ObjectRow) → ((row : ObjectRow) → (f row).id ≡ row.id) → Above low xs → Above low (map f xs)
map_above low f [] same above = tt
map_above low f (x ∷ xs) same above = (subst (λ (n : ℕ). low < n) (sym (same x)) above.0, map_above low f xs same above.1)

map_rising : (f : ObjectRow → ObjectRow) (xs : List ObjectRow) → ((row : ObjectRow) → (f row).id ≡ row.id) → Rising xs → Rising (map f xs)
map_rising f [] same rises = tt
map_rising f (x ∷ xs) same rises = (subst (λ (n : ℕ). Above n (map f xs)) (sym (same x)) (map_above x.id f xs same rises.0), map_rising f xs same rises.1)

rewritten_id : (target at size : ℕ) (row : ObjectRow) → (rewritten target at size row).id ≡ row.id
rewritten_id target at size row = by_hit (eqb row.id target)
  where
    by_hit : (b : Bool) → (cond b (record row { at = at; size = size }) row).id ≡ row.id
    by_hit true = refl
    by_hit false = refl

put_item_rising : (s : State) (it : Item) (o : Option Cause) → Rising s.graph.objects → Rising (changed s.graph (put_unless o it)).objects
put_item_rising s it (Some c) rises = rises
put_item_rising s (item.Object job row) None rises = put_rising row s.graph.objects rises
put_item_rising s (item.Edge job row from_birth to_birth) None rises = rises

put_change_rising : (s : State) (o : Option Logged) → Rising s.graph.objects → Rising (changed s.graph (put_change s o)).objects
put_change_rising s None rises = rises
put_change_rising s (Some logged) rises = put_item_rising s logged.item (judged s logged.item) rises

rising_step : (s : State) (moment : ℕ) (what : What) → Rising s.graph.objects → Rising (graph_after s moment what).objects
rising_step s moment (Create tag kind id size) rises = put_rising _ s.graph.objects rises
rising_step s moment (Update tag id size) rises = map_rising (rewritten id s.len size) s.graph.objects (rewritten_id id s.len size) rises
rising_step s moment (Link tag edge from to size) rises = rises
rising_step s moment (Unlink tag edge from to name) rises = rises
rising_step s moment (Delete tag id name) rises = rises
rising_step s moment (Restore tag which) rises = rises
rising_step s moment (Expire id) rises = rises
rising_step s moment (Cut which edge from to) rises = rises
rising_step s moment (Erase which id) rises = filter_rising (is_other_object id) s.graph.objects rises
rising_step s moment (Put which i) rises = put_change_rising s (slice_get s.items i) rises
rising_step s moment (Purge which) rises = rises

-- rising owners are the rows' ids
abbrev pub OwnersAbove : ℕ → Owners → Type 0
OwnersAbove id [] = Unit {0}
OwnersAbove id (x ∷ xs) = (id < x.0) × OwnersAbove id xs

abbrev pub OwnersRising : Owners → Type 0
OwnersRising [] = Unit {0}
OwnersRising (x ∷ xs) = OwnersAbove x.0 xs × OwnersRising xs

owners_above : (f : ObjectRow → Option ℕ) (low : ℕ) (xs : List ObjectRow) → Above low xs → OwnersAbove low (map (λ row. (row.id, f row)) xs)
owners_above f low [] above = tt
owners_above f low (x ∷ xs) above = (above.0, owners_above f low xs above.1)

owners_rising : (f : ObjectRow → Option ℕ) (xs : List ObjectRow) → Rising xs → OwnersRising (map (λ row. (row.id, f row)) xs)
owners_rising f [] rises = tt
owners_rising f (x ∷ xs) rises = (owners_above f x.id xs rises.0, owners_rising f xs rises.1)

-- rising starts

abbrev pub StartsAbove : ℕ → List JobRow → Type 0
StartsAbove start [] = Unit {0}
StartsAbove start (x ∷ xs) = (start < x.start) × StartsAbove start xs

abbrev pub StartsRising : ℕ → List JobRow → Type 0
StartsRising len [] = Unit {0}
StartsRising len (x ∷ xs) = (x.start < len) × StartsAbove x.start xs × StartsRising len xs

starts_append : (low len : ℕ) (xs : List JobRow) (o : Option (ℕ × JobName)) → low < len → StartsAbove low xs → StartsAbove low (xs ++ started_job len o)
starts_append low len [] None less above = tt
starts_append low len [] (Some pair) less above = (less, tt)
starts_append low len (x ∷ xs) o less above = (above.0, starts_append low len xs o less above.1)

starts_grow : (len : ℕ) (xs : List JobRow) (o : Option (ℕ × JobName)) → StartsRising len xs → StartsRising (len + 1) (xs ++ started_job len o)
starts_grow len [] None rises = tt
starts_grow len [] (Some pair) rises = (omega arith, tt, tt)
starts_grow len (x ∷ xs) o rises = (omega (arith, rises.0), starts_append x.start len xs o rises.0 rises.1, starts_grow len xs o rises.2)

starts_map_above : (low : ℕ) (f : JobRow → JobRow) (xs : List JobRow) → ((row : JobRow) → (f row).start ≡ row.start) → StartsAbove low xs → StartsAbove low (map f xs)
starts_map_above low f [] same above = tt
starts_map_above low f (x ∷ xs) same above = (subst (λ (n : ℕ). low < n) (sym (same x)) above.0, starts_map_above low f xs same above.1)

starts_map : (len : ℕ) (f : JobRow → JobRow) (xs : List JobRow) → ((row : JobRow) → (f row).start ≡ row.start) → StartsRising len xs → StartsRising (len + 1) (map f xs)
starts_map len f [] same rises = tt
starts_map len f (x ∷ xs) same rises =
    (below _ _ (same x) rises.0, subst (λ (n : ℕ). StartsAbove n (map f xs)) (sym (same x)) (starts_map_above x.start f xs same rises.1), starts_map len f xs same rises.2)
  where
    below : (a b : ℕ) → a ≡ b → b < len → a < len + 1
    below a b one two = omega arith

starts_more : (len : ℕ) (xs : List JobRow) → StartsRising len xs → StartsRising (len + 1) xs
starts_more len [] rises = tt
starts_more len (x ∷ xs) rises = (omega (arith, rises.0), rises.1, starts_more len xs rises.2)

restored_start : (job position : ℕ) (row : JobRow) → (row_restored_at job position row).start ≡ row.start
restored_start job position row = by_hit (eqb row.start job)
  where
    by_hit : (b : Bool) → (cond b (record row { restored = Some position }) row).start ≡ row.start
    by_hit true = refl
    by_hit false = refl

purged_start : (job : ℕ) (row : JobRow) → (purged_if job row).start ≡ row.start
purged_start job row = by_hit (eqb row.start job)
  where
    by_hit : (b : Bool) → (cond b (record row { purged = true }) row).start ≡ row.start
    by_hit true = refl
    by_hit false = refl

erased_start : (job moment : ℕ) (row : JobRow) → (erased_at job moment row).start ≡ row.start
erased_start job moment row = by_hit (eqb row.start job)
  where
    by_hit : (b : Bool) → (cond b (record row { last = Some moment }) row).start ≡ row.start
    by_hit true = refl
    by_hit false = refl

starts_step : (s : State) (moment : ℕ) (what : What) → StartsRising s.len s.jobs → StartsRising (s.len + 1) (jobs_after s moment what)
starts_step s moment (Create tag kind id size) rises = starts_more s.len s.jobs rises
starts_step s moment (Update tag id size) rises = starts_more s.len s.jobs rises
starts_step s moment (Link tag edge from to size) rises = starts_more s.len s.jobs rises
starts_step s moment (Unlink tag edge from to name) rises = starts_grow s.len s.jobs (unlink_start s edge from to name) rises
starts_step s moment (Delete tag id name) rises = starts_grow s.len s.jobs (Some (id, Named name)) rises
starts_step s moment (Restore tag which) rises = starts_map s.len (row_restored_at which s.len) s.jobs (restored_start which s.len) rises
starts_step s moment (Expire id) rises = starts_grow s.len s.jobs (Some (id, Expiry id)) rises
starts_step s moment (Cut which edge from to) rises = starts_map s.len (erased_at which moment) s.jobs (erased_start which moment) rises
starts_step s moment (Erase which id) rises = starts_map s.len (erased_at which moment) s.jobs (erased_start which moment) rises
starts_step s moment (Put which i) rises = starts_more s.len s.jobs rises
starts_step s moment (Purge which) rises = starts_map s.len (purged_if which) s.jobs (purged_start which) rises

-- no object item stands before an edge item of its job of which it is an end

abbrev pub is_end_of : Item → Item → Bool
is_end_of (item.Object job row) it = false
is_end_of (item.Edge job row from_birth to_birth) it = is_end_item job row.key.from from_birth it || is_end_item job row.key.to to_birth it

abbrev pub EndsApart : List Logged → Type 0
EndsApart [] = Unit {0}
EndsApart (x ∷ xs) = EachItem (λ y. is_end_of y.item x.item ≡ false) xs × EndsApart xs

apart_push : (xs : List Logged) (y : Logged) → EachItem (λ x. is_end_of y.item x.item ≡ false) xs → EndsApart xs → EndsApart (xs ++ y ∷ [])
apart_push [] y each apart = (tt, tt)
apart_push (x ∷ xs) y each apart =
    (each_append (λ z. is_end_of z.item x.item ≡ false) xs (y ∷ []) apart.0 (each.0, tt), apart_push xs y each.1 apart.1)

apart_handled_each : (x : Item) (xs : List Logged) (i : ℕ) (how : Handled) → EachItem (λ y. is_end_of y.item x ≡ false) xs → EachItem (λ y. is_end_of y.item x ≡ false) (handled_at xs i how)
apart_handled_each x [] i how each = tt
apart_handled_each x (y ∷ ys) zero how each = each
apart_handled_each x (y ∷ ys) (suc i) how each = (each.0, apart_handled_each x ys i how each.1)

apart_handled : (xs : List Logged) (i : ℕ) (how : Handled) → EndsApart xs → EndsApart (handled_at xs i how)
apart_handled [] i how apart = tt
apart_handled (x ∷ xs) zero how apart = apart
apart_handled (x ∷ xs) (suc i) how apart = (apart_handled_each x.item xs i how apart.0, apart_handled xs i how apart.1)

-- an item that is no edge is apart from all
object_apart : (job : ℕ) (row : ObjectRow) (xs : List Logged) → EachItem (λ x. is_end_of (item.Object job row) x.item ≡ false) xs
object_apart job row [] = tt
object_apart job row (x ∷ xs) = (refl, object_apart job row xs)

end_parts : (job id birth : ℕ) (it : Item) → is_end_item job id birth it ≡ true → (job_of it ≡ job) × (is_object_born birth it ≡ true)
end_parts job id birth (item.Object other row) is =
    let all = and_parts (eqb other job && eqb row.id id) (eqb row.birth birth) is in
    (eqb-true other job (and_parts (eqb other job) (eqb row.id id) all.0).0, all.1)
end_parts job id birth (item.Edge other row from_birth to_birth) is = absurd (false≢true is)

-- what is counted nowhere fails everywhere
none_counted : (q : Logged → Bool) (xs : List Logged) → count_by q xs ≤ 0 → EachItem (λ x. q x ≡ false) xs
none_counted q [] none = tt
none_counted q (x ∷ xs) none =
    (by_hit (q x) (here (one_if (q x)) (count_by q xs) (sum_by-cons (λ y. one_if (q y)) x xs) none), none_counted q xs (rest (one_if (q x)) (count_by q xs) (sum_by-cons (λ y. one_if (q y)) x xs) none))
  where
    here : (a b : ℕ) → count_by q (x ∷ xs) ≡ a + b → count_by q (x ∷ xs) ≤ 0 → a ≤ 0
    here a b one two = omega arith

    rest : (a b : ℕ) → count_by q (x ∷ xs) ≡ a + b → count_by q (x ∷ xs) ≤ 0 → b ≤ 0
    rest a b one two = omega arith

    by_hit : (b : Bool) → one_if b ≤ 0 → b ≡ false
    by_hit true less = absurd (omega arith)
    by_hit false less = refl

each_both : (P Q : Logged → Type 0) (xs : List Logged) → EachItem P xs → EachItem Q xs → EachItem (λ x. P x × Q x) xs
each_both P Q [] one two = tt
each_both P Q (x ∷ xs) one two = ((one.0, two.0), each_both P Q xs one.1 two.1)

-- an object that stands was not erased by a job that is not restored
quiet_end : (s : State) (job id birth : ℕ) → is_restored s.jobs job ≡ false → (l : Logged) → HandledOf s.jobs l → waits birth l ≡ false → is_end_item job id birth l.item ≡ false
quiet_end s job id birth none l handled quiet = by_end (is_end_item job id birth l.item) refl
  where
    by_handled : (h : Option Handled) → (is_some h ≡ true → is_restored s.jobs (job_of l.item) ≡ true) → is_restored s.jobs (job_of l.item) ≡ false → is_none h ≡ true
    by_handled None was now = refl
    by_handled (Some how) was now = absurd (false≢true (sym now ∙ was refl))

    by_end : (b : Bool) → is_end_item job id birth l.item ≡ b → b ≡ false
    by_end false is = refl
    by_end true is =
        let parts = end_parts job id birth l.item is in
        absurd (false≢true (sym quiet ∙
        and_from (is_none l.handled) (is_object_born birth l.item)
        (by_handled l.handled handled (subst (λ (j : ℕ). is_restored s.jobs j ≡ false) (sym parts.0) none)) parts.1))

not_erased_row : (s : State) (job id : ℕ) (row : ObjectRow) → Good s → is_restored s.jobs job ≡ false → object_at s.graph id ≡ Some row → EachItem (λ x. is_end_item job id row.birth x.item ≡ false) s.items
not_erased_row s job id row good none at =
    each_weaken (λ l. HandledOf s.jobs l × (waits row.birth l ≡ false)) (λ x. is_end_item job id row.birth x.item ≡ false) s.items
    (λ l both. quiet_end s job id row.birth none l both.0 both.1)
    (each_both (HandledOf s.jobs) (λ l. waits row.birth l ≡ false) s.items good.handled (none_counted (waits row.birth) s.items none_waits))
  where
    none_waits : count_by (waits row.birth) s.items ≤ 0
    none_waits =
        let stood : 0 < count_by (has_birth row.birth) s.graph.objects = count_found (has_id id) (has_birth row.birth) row s.graph.objects at (eq-eqb row.birth row.birth refl) in
        let one : places s row.birth ≤ 1 = good.one_place row.birth in
        omega arith

not_erased : (s : State) (job id : ℕ) → Good s → is_restored s.jobs job ≡ false → is_some (object_at s.graph id) ≡ true → EachItem (λ x. is_end_item job id (birth_of s.graph id) x.item ≡ false) s.items
not_erased s job id good none some = by_row (object_at s.graph id) refl
  where
    by_row : (o : Option ObjectRow) → object_at s.graph id ≡ o → EachItem (λ x. is_end_item job id (birth_of s.graph id) x.item ≡ false) s.items
    by_row None at = absurd (false≢true (sym (ap (λ (r : Option ObjectRow). is_some r) at) ∙ some))
    by_row (Some row) at =
        subst (λ (n : ℕ). EachItem (λ x. is_end_item job id n x.item ≡ false) s.items) (sym (ap birth_of_row at)) (not_erased_row s job id row good none at)

or_false : (a b : Bool) → a ≡ false → b ≡ false → (a || b) ≡ false
or_false true b one two = one
or_false false b one two = two

idle_job : (s : State) (job id : ℕ) → Good s → is_owned_by s job id ≡ true → is_restored s.jobs job ≡ false
idle_job s job id good own = by_case (is_restored s.jobs job) refl
  where
    by_case : (b : Bool) → is_restored s.jobs job ≡ b → b ≡ false
    by_case true is = absurd (good.idle job id is (owner_is s job id own))
    by_case false is = refl

cut_apart : (s : State) (job : ℕ) (key : EdgeKey) → Good s → is_restored s.jobs job ≡ false → (o : Option EdgeRow) → edge_at s.graph key ≡ o → edge_stands s.graph key ≡ true →
    EndsApart s.items → EndsApart (s.items ++ edge_item s.graph job o)
cut_apart s job key good none None at stood apart = absurd (false≢true (sym (ap (λ (r : Option EdgeRow). is_some r) at) ∙ stood))
cut_apart s job key good none (Some row) at stood apart =
    let same : row.key ≡ key = found_key s.graph.edges key row at in
    let there : edge_stands s.graph row.key ≡ true = subst (λ (k : EdgeKey). edge_stands s.graph k ≡ true) (sym same) stood in
    apart_push s.items (unhandled (item.Edge job row (birth_of s.graph row.key.from) (birth_of s.graph row.key.to)))
    (each_weaken (λ x. (is_end_item job row.key.from (birth_of s.graph row.key.from) x.item ≡ false) × (is_end_item job row.key.to (birth_of s.graph row.key.to) x.item ≡ false))
    (λ x. is_end_of (item.Edge job row (birth_of s.graph row.key.from) (birth_of s.graph row.key.to)) x.item ≡ false) s.items
    (λ x both. or_false _ _ both.0 both.1)
    (each_both _ _ s.items (not_erased s job row.key.from good none (good.ends.source row.key there)) (not_erased s job row.key.to good none (good.ends.target row.key there))))
    apart

erase_apart : (s : State) (job : ℕ) (o : Option ObjectRow) → is_some o ≡ true → EndsApart s.items → EndsApart (s.items ++ object_item job o)
erase_apart s job None some apart = absurd (false≢true some)
erase_apart s job (Some row) some apart = apart_push s.items (unhandled (item.Object job row)) (object_apart job row s.items) apart

apart_step : (s : State) (moment : ℕ) (what : What) → Good s → is_allowed s moment what ≡ true → EndsApart s.items → EndsApart (items_after s what)
apart_step s moment (Create tag kind id size) good line apart = apart
apart_step s moment (Update tag id size) good line apart = apart
apart_step s moment (Link tag edge from to size) good line apart = apart
apart_step s moment (Unlink tag edge from to name) good line apart = apart
apart_step s moment (Delete tag id name) good line apart = apart
apart_step s moment (Restore tag which) good line apart = apart
apart_step s moment (Expire id) good line apart = apart
apart_step s moment (Cut which edge from to) good line apart =
    let parts = and_parts (edge_stands s.graph (key_of edge from to)) (is_owned_by s which from || is_owned_by s which to) line in
    cut_apart s which (key_of edge from to) good
    (elim (or_cases (is_owned_by s which from) (is_owned_by s which to) parts.1) [ inl own ↦ idle_job s which from good own | inr own ↦ idle_job s which to good own ])
    (edge_at s.graph (key_of edge from to)) refl parts.0 apart
apart_step s moment (Erase which id) good line apart =
    erase_apart s which (object_at s.graph id) (good.owned_stand id which (owner_is s which id (and_parts (is_owned_by s which id) _ line).0)) apart
apart_step s moment (Put which i) good line apart = apart_handled s.items i (outcome s (slice_get s.items i)) apart
apart_step s moment (Purge which) good line apart = apart

-- who owns has a row among the jobs

abbrev pub OwnersHaveJobs : State → Type 0
OwnersHaveJobs s = (id job : ℕ) → owner s id ≡ Some job → is_some (job_row s.jobs job) ≡ true

some_over : {A : Type 0} (o p : Option A) → is_some o ≡ true → is_some (option_or o p) ≡ true
some_over None p some = absurd (false≢true some)
some_over (Some x) p some = refl

some_under : {A : Type 0} (o p : Option A) → is_some p ≡ true → is_some (option_or o p) ≡ true
some_under None p some = some
some_under (Some x) p some = refl

map_some : (f : JobRow → JobRow) (o : Option JobRow) → is_some (option_map f o) ≡ is_some o
map_some f None = refl
map_some f (Some row) = refl

grown_stays : (jobs : List JobRow) (len : ℕ) (o : Option (ℕ × JobName)) (job : ℕ) → is_some (job_row jobs job) ≡ true → is_some (job_row (jobs ++ started_job len o) job) ≡ true
grown_stays jobs len o job some = ap (λ (r : Option JobRow). is_some r) (job_row-started jobs len o job) ∙ some_over (job_row jobs job) (job_row (started_job len o) job) some

grown_new : (jobs : List JobRow) (len : ℕ) (o : Option (ℕ × JobName)) → is_some o ≡ true → is_some (job_row (jobs ++ started_job len o) len) ≡ true
grown_new jobs len None some = absurd (false≢true some)
grown_new jobs len (Some pair) some =
    ap (λ (r : Option JobRow). is_some r) (job_row-started jobs len (Some pair) len) ∙
    some_under (job_row jobs len) (job_row (started_job len (Some pair)) len) (ap (λ (b : Bool). is_some (cond b (Some (new_job len pair.0 pair.1)) None)) (eq-eqb len len refl))

jobs_stay : (s : State) (moment : ℕ) (what : What) (job : ℕ) → is_some (job_row s.jobs job) ≡ true → is_some (job_row (jobs_after s moment what) job) ≡ true
jobs_stay s moment (Create tag kind id size) job some = some
jobs_stay s moment (Update tag id size) job some = some
jobs_stay s moment (Link tag edge from to size) job some = some
jobs_stay s moment (Unlink tag edge from to name) job some = grown_stays s.jobs s.len (unlink_start s edge from to name) job some
jobs_stay s moment (Delete tag id name) job some = grown_stays s.jobs s.len (Some (id, Named name)) job some
jobs_stay s moment (Restore tag which) job some = ap (λ (r : Option JobRow). is_some r) (job_row-restored s.jobs which s.len job) ∙ (map_some (row_restored_at which s.len) (job_row s.jobs job) ∙ some)
jobs_stay s moment (Expire id) job some = grown_stays s.jobs s.len (Some (id, Expiry id)) job some
jobs_stay s moment (Cut which edge from to) job some = ap (λ (r : Option JobRow). is_some r) (job_row-erased s.jobs which moment job) ∙ (map_some (erased_at which moment) (job_row s.jobs job) ∙ some)
jobs_stay s moment (Erase which id) job some = ap (λ (r : Option JobRow). is_some r) (job_row-erased s.jobs which moment job) ∙ (map_some (erased_at which moment) (job_row s.jobs job) ∙ some)
jobs_stay s moment (Put which i) job some = some
jobs_stay s moment (Purge which) job some = ap (λ (r : Option JobRow). is_some r) (job_row-purged s.jobs which job) ∙ (map_some (purged_if which) (job_row s.jobs job) ∙ some)

hit_or_old : (b : Bool) (n job : ℕ) (o : Option ℕ) → cond b (Some n) o ≡ Some job → ((b ≡ true) × (job ≡ n)) ⊎ (o ≡ Some job)
hit_or_old true n job o is = inl (refl, (let same : n ≡ job = cc in sym same))
hit_or_old false n job o is = inr is

owner_row : (s : State) (moment : ℕ) (what : What) → is_allowed s moment what ≡ true → OwnersHaveJobs s → (id job : ℕ) → plain_owner s what id ≡ Some job → is_some (job_row (jobs_after s moment what) job) ≡ true
owner_row s moment (Create tag kind x size) line have id job own = have id job own
owner_row s moment (Update tag x size) line have id job own = have id job own
owner_row s moment (Link tag edge from to size) line have id job own = have id job own
owner_row s moment (Unlink tag edge from to name) line have id job own =
    elim (hit_or_old (is_some (unlink_start s edge from to name) && eqb to id) s.len job (owner s id) own) [
      | inl new ↦
          subst (λ (n : ℕ). is_some (job_row (s.jobs ++ started_job s.len (unlink_start s edge from to name)) n) ≡ true) (sym new.1)
          (grown_new s.jobs s.len (unlink_start s edge from to name) (and_parts (is_some (unlink_start s edge from to name)) (eqb to id) new.0).0)
      | inr old ↦ grown_stays s.jobs s.len (unlink_start s edge from to name) job (have id job old)
    ]
owner_row s moment (Delete tag root name) line have id job own =
    elim (hit_or_old (eqb root id) s.len job (owner s id) own) [
      | inl new ↦ subst (λ (n : ℕ). is_some (job_row (s.jobs ++ started_job s.len (Some (root, Named name))) n) ≡ true) (sym new.1) (grown_new s.jobs s.len (Some (root, Named name)) refl)
      | inr old ↦ grown_stays s.jobs s.len (Some (root, Named name)) job (have id job old)
    ]
owner_row s moment (Restore tag which) line have id job own = jobs_stay s moment (Restore tag which) job (have id job own)
owner_row s moment (Expire root) line have id job own =
    elim (hit_or_old (eqb root id) s.len job (owner s id) own) [
      | inl new ↦ subst (λ (n : ℕ). is_some (job_row (s.jobs ++ started_job s.len (Some (root, Expiry root))) n) ≡ true) (sym new.1) (grown_new s.jobs s.len (Some (root, Expiry root)) refl)
      | inr old ↦ grown_stays s.jobs s.len (Some (root, Expiry root)) job (have id job old)
    ]
owner_row s moment (Cut which edge from to) line have id job own =
    jobs_stay s moment (Cut which edge from to) job
    (elim (hit_or_old _ which job (owner s id) own) [
      | inl new ↦
          subst (λ (n : ℕ). is_some (job_row s.jobs n) ≡ true) (sym new.1)
          (elim (or_cases (is_owned_by s which from) (is_owned_by s which to) (and_parts (edge_stands s.graph (key_of edge from to)) (is_owned_by s which from || is_owned_by s which to) line).1) [
            | inl own_end ↦ have from which (owner_is s which from own_end)
            | inr own_end ↦ have to which (owner_is s which to own_end)
          ])
      | inr old ↦ have id job old
    ])
owner_row s moment (Erase which gone) line have id job own = jobs_stay s moment (Erase which gone) job (have id job (left (eqb gone id) own))
  where
    left : (b : Bool) → cond b None (owner s id) ≡ Some job → owner s id ≡ Some job
    left true is = absurd (cc is)
    left false is = is
owner_row s moment (Put which i) line have id job own = have id job own
owner_row s moment (Purge which) line have id job own = jobs_stay s moment (Purge which) job (have id job own)

-- what goes in order
pub record Ordered (s : State) : Type 0 where
  pub good : Good s
  pub ids : Rising s.graph.objects
  pub owners : OwnersRising s.owners
  pub starts : StartsRising s.len s.jobs
  pub apart : EndsApart s.items
  pub have_jobs : OwnersHaveJobs s

pub ordered_start : (rules : RuleSet) → Ordered (start rules)
ordered_start rules = record {
  good = good_start rules;
  ids = tt;
  owners = tt;
  starts = tt;
  apart = tt;
  have_jobs = λ id job own. absurd (cc own);
}

pub ordered_step : (s : State) (e : Entry) → Ordered s → is_legal s e ≡ true → Ordered (step s e)
ordered_step s e ordered legal = record {
  good = good_step s e ordered.good legal;
  ids = rising_step s e.moment e.what ordered.ids;
  owners = owners_rising (next_at s e) (graph_after s e.moment e.what).objects (rising_step s e.moment e.what ordered.ids);
  starts = starts_step s e.moment e.what ordered.starts;
  apart = apart_step s e.moment e.what ordered.good (allowed_of s e legal) ordered.apart;
  have_jobs = λ id job own.
      owner_row s e.moment e.what (allowed_of s e legal) ordered.have_jobs id job
      (sym (owner_plain s e.moment e.what legal ordered.good.owned_stand ordered.good.ends id) ∙ own);
}

pub ordered_after : (rules : RuleSet) (h : List Entry) → Legal rules h → Ordered (after rules h)
ordered_after rules h legal = good_run Ordered ordered_step (start rules) h (ordered_start rules) legal

-- the same as a test

rises_test : (id : ℕ) (xs : List ObjectRow) → Above id xs → Rising xs → rises_after id xs ≡ true
rises_test id [] above rises = refl
rises_test id (x ∷ xs) above rises = and_from (ltb id x.id) (rises_after x.id xs) (lt-ltb id x.id above.0) (rises_test x.id xs rises.0 rises.1)

rise_test : (xs : List ObjectRow) → Rising xs → objects_rise xs ≡ true
rise_test [] rises = refl
rise_test (x ∷ xs) rises = rises_test x.id xs rises.0 rises.1

pub objects_rise_after : (rules : RuleSet) (h : List Entry) → Legal rules h → objects_rise (after rules h).graph.objects ≡ true
objects_rise_after rules h legal = rise_test (after rules h).graph.objects (ordered_after rules h legal).ids
