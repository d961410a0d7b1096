-- The room: no unlink, delete or step raises it, and calls are refused where it would pass the limit.
use Rattle.std.proofs.Common.{◌≡◌, ℕ, ◌+◌, ◌≤◌, Bool, true, false, cond, not, ◌&&◌, ◌||◌, eqb, List, [], ◌∷◌, ◌++◌, Option, Some, None, refl, sym, ap, ◌∙◌, subst, arith, inl, inr}
use Rattle.std.proofs.lemmas.Bool.Decides.{nat_tests}
use Rattle.std.proofs.lemmas.Bool.{and_parts, eqb-true, eq-eqb, false≢true, or_cases}
use Rattle.std.proofs.lemmas.List.Sums.{sum_by-cons, sum_by-append}
use Rattle.std.specs.Prelude.{filter, map, sum_by, is_some, is_none, slice_get}
use Rattle.delf_model.specs.declared.rows.ObjectRow.{ObjectRow}
use Rattle.delf_model.specs.declared.rows.EdgeKey.{EdgeKey}
use Rattle.delf_model.specs.declared.rows.EdgeRow.{EdgeRow}
use Rattle.delf_model.specs.declared.rows.Item.{Item}
use Rattle.delf_model.specs.declared.rows.Item.TheVariants as item
use Rattle.delf_model.specs.declared.call.Cause.{Cause}
use Rattle.delf_model.specs.declared.ids.JobName.{JobName}
use Rattle.delf_model.specs.declared.ids.JobName.TheVariants.{Named, Expiry}
use Rattle.delf_model.specs.declared.entry.Tag.{Tag}
use Rattle.delf_model.specs.declared.entry.What.{What}
use Rattle.delf_model.specs.declared.entry.What.TheVariants.{Create, Update, Link, Unlink, Delete, Restore, Expire, Cut, Erase, Put, Purge}
use Rattle.delf_model.specs.Graph.{Graph, has_id, has_key, object_at, edge_at, edge_stands, is_other_object, is_other_edge, changed}
use Rattle.delf_model.specs.State.{State, Logged, JobRow, owner, job_row, starts_at, is_restored, is_open, is_object_item, job_of, is_owned_by, owned, left}
use Rattle.delf_model.specs.Step.{step, jobs_after, new_job, started_job, purged_if, erased_at, edge_item, object_item, outcome, unhandled, put_change, put_unless, birth_of}
use Rattle.delf_model.specs.Owners.{unlink_start, key_of}
use Rattle.delf_model.specs.Puts.{judged}
use Rattle.delf_model.specs.Legal.{is_legal, may_put, may_purge, is_named_so, is_due_row, ends_handled, window_passed}
use Rattle.delf_model.specs.Reply.{refusals}
use Rattle.delf_model.specs.Room.{room, room_limit, owed_for_object, owed_for_edge, owed_for_job, owed_for_item}
use Rattle.delf_model.specs.Sound.{never_raises}
use Rattle.delf_model.specs.Store.{EndsStand}
use Rattle.delf_model.proofs.Lines.{NoneOf, none_of, allowed_of, there, free, edge_there, room_left}
use Rattle.delf_model.proofs.Leaves.{owner_is}
use Rattle.delf_model.proofs.Owners.{OwnedStand, found_id}
use Rattle.delf_model.proofs.Plain.{plain_owner, owner_plain}
use Rattle.delf_model.proofs.Jobs.{Idle, restored_same}
use Rattle.delf_model.proofs.Sums.{sum_put_object, sum_put_edge, sum_without, sum_no_more, sum_falls, sum_map, sum_handled}

-- the four sums of what is owed

abbrev pub objects_owed : State → ℕ
objects_owed s = sum_by (owed_for_object s.owners) s.graph.objects

abbrev pub edges_owed : State → ℕ
edges_owed s = sum_by owed_for_edge s.graph.edges

abbrev pub jobs_owed : State → ℕ
jobs_owed s = sum_by owed_for_job s.jobs

abbrev pub items_owed : State → ℕ
items_owed s = sum_by (owed_for_item s.jobs) s.items

room_from : (n a b c d a' b' c' d' : ℕ) → a' + b' + c' + d' + 1 ≤ a + b + c + d → n + 1 + (a' + b' + c' + d') ≤ n + (a + b + c + d)
room_from n a b c d a' b' c' d' less = omega arith

pub below : {a b c : ℕ} → a ≤ b → b ≤ c → a ≤ c
below one two = omega arith

no_more : (n : ℕ) → n ≤ n
no_more n = omega arith

-- what an object owes falls where it gets an owner

owed_less : (now before : Bool) → (before ≡ true → now ≡ true) → cond now 1 3 ≤ cond before 1 3
owed_less true true kept = omega arith
owed_less true false kept = omega arith
owed_less false true kept = absurd (false≢true (kept refl))
owed_less false false kept = omega arith

owed_owned : (now before : Bool) → now ≡ true → before ≡ false → cond now 1 3 + 2 ≤ cond before 1 3
owed_owned true true one two = absurd (false≢true (sym two))
owed_owned true false one two = omega arith
owed_owned false b one two = absurd (false≢true one)

-- owners that stay owners
abbrev pub OwnersStay : State → State → Type 0
OwnersStay s t = (id : ℕ) → is_some (owner s id) ≡ true → is_some (owner t id) ≡ true

same_objects_owed : (s t : State) → t.graph.objects ≡ s.graph.objects → OwnersStay s t → objects_owed t ≤ objects_owed s
same_objects_owed s t same stay =
    subst (λ (rows : List ObjectRow). sum_by (owed_for_object t.owners) rows ≤ objects_owed s) (sym same)
    (sum_no_more (owed_for_object t.owners) (owed_for_object s.owners) s.graph.objects (λ row. owed_less (is_some (owner t row.id)) (is_some (owner s row.id)) (stay row.id)))

some_row : (o : Option ObjectRow) → is_some o ≡ true → (row : ObjectRow) × (o ≡ Some row)
some_row None some = absurd (false≢true some)
some_row (Some row) some = (row, refl)

rooted_objects_owed : (s t : State) (root : ℕ) → t.graph.objects ≡ s.graph.objects → OwnersStay s t → is_some (object_at s.graph root) ≡ true →
    owner s root ≡ None → is_some (owner t root) ≡ true → objects_owed t + 2 ≤ objects_owed s
rooted_objects_owed s t root same stay there_root free_root owned_root =
    subst (λ (rows : List ObjectRow). sum_by (owed_for_object t.owners) rows + 2 ≤ objects_owed s) (sym same)
    (let found = some_row (object_at s.graph root) there_root in
    let is : found.0.id ≡ root = found_id s.graph.objects root found.0 found.1 in
    sum_falls (owed_for_object t.owners) (owed_for_object s.owners) 2 (has_id root) found.0 s.graph.objects found.1
    (λ row. owed_less (is_some (owner t row.id)) (is_some (owner s row.id)) (stay row.id))
    (owed_owned (is_some (owner t found.0.id)) (is_some (owner s found.0.id))
    (subst (λ (n : ℕ). is_some (owner t n) ≡ true) (sym is) owned_root)
    (subst (λ (n : ℕ). is_some (owner s n) ≡ false) (sym is) (ap (λ (o : Option ℕ). is_some o) free_root))))

-- edges

edge_row : (o : Option EdgeRow) → is_some o ≡ true → (row : EdgeRow) × (o ≡ Some row)
edge_row None some = absurd (false≢true some)
edge_row (Some row) some = (row, refl)

taken_edge_owed : (g : Graph) (key : EdgeKey) → edge_stands g key ≡ true → 1 + sum_by owed_for_edge (filter (is_other_edge key) g.edges) ≤ sum_by owed_for_edge g.edges
taken_edge_owed g key stood =
    let found = edge_row (edge_at g key) stood in sum_without owed_for_edge (has_key key) found.0 g.edges found.1

-- jobs

grown_owed : (jobs : List JobRow) (start root : ℕ) (name : JobName) → sum_by owed_for_job (jobs ++ new_job start root name ∷ []) ≤ sum_by owed_for_job jobs + 1
grown_owed jobs start root name =
    omega (arith, sum_by-append owed_for_job jobs (new_job start root name ∷ []), sum_by-cons owed_for_job (new_job start root name) [])

started_owed : (jobs : List JobRow) (start : ℕ) (o : Option (ℕ × JobName)) → is_some o ≡ false → sum_by owed_for_job (jobs ++ started_job start o) ≤ sum_by owed_for_job jobs
started_owed jobs start None none = omega (arith, sum_by-append owed_for_job jobs [])
started_owed jobs start (Some pair) none = absurd (false≢true (sym none))

started_one_owed : (jobs : List JobRow) (start : ℕ) (o : Option (ℕ × JobName)) → sum_by owed_for_job (jobs ++ started_job start o) ≤ sum_by owed_for_job jobs + 1
started_one_owed jobs start None = omega (arith, sum_by-append owed_for_job jobs [])
started_one_owed jobs start (Some pair) = grown_owed jobs start pair.0 pair.1

erased_owes : (job moment : ℕ) (row : JobRow) → owed_for_job (erased_at job moment row) ≤ owed_for_job row
erased_owes job moment row = by_hit (eqb row.start job)
  where
    by_hit : (b : Bool) → owed_for_job (cond b (record row { last = Some moment }) row) ≤ owed_for_job row
    by_hit true = omega arith
    by_hit false = omega arith

erased_jobs_owed : (jobs : List JobRow) (job moment : ℕ) → sum_by owed_for_job (map (erased_at job moment) jobs) ≤ sum_by owed_for_job jobs
erased_jobs_owed jobs job moment =
    omega (arith, sum_map owed_for_job (erased_at job moment) jobs, sum_no_more (λ row. owed_for_job (erased_at job moment row)) owed_for_job jobs (erased_owes job moment))

purged_owes : (job : ℕ) (row : JobRow) → owed_for_job (purged_if job row) ≤ owed_for_job row
purged_owes job row = by_hit (eqb row.start job)
  where
    by_hit : (b : Bool) → owed_for_job (cond b (record row { purged = true }) row) ≤ owed_for_job row
    by_hit true = omega arith
    by_hit false = omega arith

purged_owes_none : (job : ℕ) (row : JobRow) → row.start ≡ job → row.purged ≡ false → owed_for_job (purged_if job row) + 1 ≤ owed_for_job row
purged_owes_none job row is not_yet = by_hit (eqb row.start job) (eq-eqb row.start job is) row.purged not_yet
  where
    by_hit : (b : Bool) → b ≡ true → (done : Bool) → done ≡ false → owed_for_job (cond b (record row { purged = true }) row) + 1 ≤ cond done 0 1
    by_hit true hit true late = absurd (false≢true (sym late))
    by_hit true hit false late = omega arith
    by_hit false hit done late = absurd (false≢true hit)

found_job : (rows : List JobRow) (j : ℕ) (row : JobRow) → job_row rows j ≡ Some row → row.start ≡ j
found_job [] j row found = absurd (cc found)
found_job (x ∷ xs) j row found = by_hit (eqb x.start j) refl found (found_job xs j row)
  where
    by_hit : (b : Bool) → eqb x.start j ≡ b → cond b (Some x) (job_row xs j) ≡ Some row → (job_row xs j ≡ Some row → row.start ≡ j) → row.start ≡ j
    by_hit true is here IH = let same : x ≡ row = cc in subst (λ (r : JobRow). r.start ≡ j) same (eqb-true x.start j is)
    by_hit false is here IH = IH here

purged_jobs_owed : (jobs : List JobRow) (job : ℕ) (row : JobRow) → job_row jobs job ≡ Some row → row.purged ≡ false →
    sum_by owed_for_job (map (purged_if job) jobs) + 1 ≤ sum_by owed_for_job jobs
purged_jobs_owed jobs job row at not_yet =
    omega (
      arith,
      sum_map owed_for_job (purged_if job) jobs,
      sum_falls (λ r. owed_for_job (purged_if job r)) owed_for_job 1 (starts_at job) row jobs at (purged_owes job)
          (purged_owes_none job row (found_job jobs job row at) not_yet),
    )

-- items, where jobs are restored as before

owed_open : (jobs now : List JobRow) (logged : Logged) → is_restored now (job_of logged.item) ≡ is_restored jobs (job_of logged.item) →
    owed_for_item now logged ≤ owed_for_item jobs logged
owed_open jobs now logged same = by_same (is_restored now (job_of logged.item)) (is_restored jobs (job_of logged.item)) same
  where
    by_same : (a b : Bool) → a ≡ b →
        cond (is_none logged.handled && a) (cond (is_object_item logged.item) 4 2) 0 ≤ cond (is_none logged.handled && b) (cond (is_object_item logged.item) 4 2) 0
    by_same a b is = subst (λ (c : Bool). cond (is_none logged.handled && a) (cond (is_object_item logged.item) 4 2) 0 ≤ cond (is_none logged.handled && c) (cond (is_object_item logged.item) 4 2) 0) is (omega arith)

same_items_owed : (jobs now : List JobRow) (items : List Logged) → ((job : ℕ) → is_restored now job ≡ is_restored jobs job) → sum_by (owed_for_item now) items ≤ sum_by (owed_for_item jobs) items
same_items_owed jobs now items same = sum_no_more (owed_for_item now) (owed_for_item jobs) items (λ logged. owed_open jobs now logged (same (job_of logged.item)))

closed_item : (now : List JobRow) (it : Item) → is_restored now (job_of it) ≡ false → owed_for_item now (unhandled it) ≡ 0
closed_item now it none = ap (λ (b : Bool). owes b) none
  where
    owes : Bool → ℕ
    owes b = cond b (cond (is_object_item it) 4 2) 0

edge_item_owed : (now : List JobRow) (g : Graph) (job : ℕ) (o : Option EdgeRow) → is_restored now job ≡ false → sum_by (owed_for_item now) (edge_item g job o) ≤ 0
edge_item_owed now g job None none = omega arith
edge_item_owed now g job (Some row) none =
    omega (
      arith,
      sum_by-cons (owed_for_item now) (unhandled (item.Edge job row (birth_of g row.key.from) (birth_of g row.key.to))) [],
      closed_item now (item.Edge job row (birth_of g row.key.from) (birth_of g row.key.to)) none,
    )

object_item_owed : (now : List JobRow) (job : ℕ) (o : Option ObjectRow) → is_restored now job ≡ false → sum_by (owed_for_item now) (object_item job o) ≤ 0
object_item_owed now job None none = omega arith
object_item_owed now job (Some row) none =
    omega (arith, sum_by-cons (owed_for_item now) (unhandled (item.Object job row)) [], closed_item now (item.Object job row) none)

-- who owns is not restored
not_restored : (s : State) (job id : ℕ) → Idle s → is_owned_by s job id ≡ true → is_restored s.jobs job ≡ false
not_restored s job id idle own = by_case (is_restored s.jobs job) refl
  where
    by_case : (b : Bool) → is_restored s.jobs job ≡ b → b ≡ false
    by_case true is = absurd (idle job id is (owner_is s job id own))
    by_case false is = refl

some_over : (b : Bool) (x : ℕ) (o : Option ℕ) → is_some o ≡ true → is_some (cond b (Some x) o) ≡ true
some_over true x o some = refl
some_over false x o some = some

-- what keeps the room, kind by kind: the objects' sum falls by x, the edges' by y, the jobs' rises by z, and so on

delete_room : (a b c d a' b' c' d' : ℕ) → a' + 2 ≤ a → b' ≤ b → c' ≤ c + 1 → d' ≤ d → a' + b' + c' + d' + 1 ≤ a + b + c + d
delete_room a b c d a' b' c' d' one two three four = omega arith

unlink_room : (a b c d a' b' c' d' : ℕ) → a' ≤ a → 1 + b' ≤ b → c' ≤ c → d' ≤ d → a' + b' + c' + d' + 1 ≤ a + b + c + d
unlink_room a b c d a' b' c' d' one two three four = omega arith

starting_room : (a b c d a' b' c' d' : ℕ) → a' + 2 ≤ a → 1 + b' ≤ b → c' ≤ c + 1 → d' ≤ d → a' + b' + c' + d' + 1 ≤ a + b + c + d
starting_room a b c d a' b' c' d' one two three four = omega arith

erase_room : (a b c d a' b' c' d' : ℕ) → a' + 1 ≤ a → b' ≤ b → c' ≤ c → d' ≤ d → a' + b' + c' + d' + 1 ≤ a + b + c + d
erase_room a b c d a' b' c' d' one two three four = omega arith

purge_room : (a b c d a' b' c' d' : ℕ) → a' ≤ a → b' ≤ b → c' + 1 ≤ c → d' ≤ d → a' + b' + c' + d' + 1 ≤ a + b + c + d
purge_room a b c d a' b' c' d' one two three four = omega arith

put_room : (a b c d a' b' c' d' n m : ℕ) → a' ≤ a + n → b' ≤ b + m → c' ≤ c → d' + (n + m + 1) ≤ d → a' + b' + c' + d' + 1 ≤ a + b + c + d
put_room a b c d a' b' c' d' n m one two three four = omega arith

plain_stays : (s : State) (moment : ℕ) (what : What) → is_legal s (record { moment = moment; what = what }) ≡ true → OwnedStand s → EndsStand s.graph →
    ((id : ℕ) → is_some (owner s id) ≡ true → is_some (plain_owner s what id) ≡ true) → OwnersStay s (step s (record { moment = moment; what = what }))
plain_stays s moment what legal stand ends kept id some = ap (λ (o : Option ℕ). is_some o) (owner_plain s moment what legal stand ends id) ∙ kept id some

rooted : (s : State) (moment : ℕ) (what : What) (root : ℕ) → is_legal s (record { moment = moment; what = what }) ≡ true → OwnedStand s → EndsStand s.graph →
    is_some (plain_owner s what root) ≡ true → is_some (owner (step s (record { moment = moment; what = what })) root) ≡ true
rooted s moment what root legal stand ends some = ap (λ (o : Option ℕ). is_some o) (owner_plain s moment what legal stand ends root) ∙ some

root_hit : (n : ℕ) (root : ℕ) (o : Option ℕ) → is_some (cond (eqb root root) (Some n) o) ≡ true
root_hit n root o = ap (λ (b : Bool). is_some (cond b (Some n) o)) (eq-eqb root root refl)

delete_falls : (s : State) (moment : ℕ) (tag : Tag) (root name : ℕ) → is_legal s (record { moment = moment; what = Delete tag root name }) ≡ true → OwnedStand s → EndsStand s.graph →
    room (step s (record { moment = moment; what = Delete tag root name })) ≤ room s
delete_falls s moment tag root name legal stand ends =
    let line = none_of (refusals s moment (Delete tag root name)) (allowed_of s (record { moment = moment; what = Delete tag root name }) legal) in
    room_from s.len _ _ _ _ _ _ _ _
    (delete_room _ _ _ _ _ _ _ _
    (rooted_objects_owed s (step s (record { moment = moment; what = Delete tag root name })) root refl
    (plain_stays s moment (Delete tag root name) legal stand ends (λ id some. some_over (eqb root id) s.len (owner s id) some))
    (there s root line.0) (free s root line.1.0) (rooted s moment (Delete tag root name) root legal stand ends (root_hit s.len root (owner s root))))
    (no_more _)
    (grown_owed s.jobs s.len root (Named name))
    (same_items_owed s.jobs (jobs_after s moment (Delete tag root name)) s.items (λ job. restored_same s moment (Delete tag root name) job refl)))

expire_falls : (s : State) (moment root : ℕ) → is_legal s (record { moment = moment; what = Expire root }) ≡ true → OwnedStand s → EndsStand s.graph →
    room (step s (record { moment = moment; what = Expire root })) ≤ room s
expire_falls s moment root legal stand ends =
    let line = and_parts (is_due_row moment (object_at s.graph root)) (is_none (owner s root)) (allowed_of s (record { moment = moment; what = Expire root }) legal) in
    room_from s.len _ _ _ _ _ _ _ _
    (delete_room _ _ _ _ _ _ _ _
    (rooted_objects_owed s (step s (record { moment = moment; what = Expire root })) root refl
    (plain_stays s moment (Expire root) legal stand ends (λ id some. some_over (eqb root id) s.len (owner s id) some))
    (due_there (object_at s.graph root) line.0) (none_is (owner s root) line.1) (rooted s moment (Expire root) root legal stand ends (root_hit s.len root (owner s root))))
    (no_more _)
    (grown_owed s.jobs s.len root (Expiry root))
    (same_items_owed s.jobs (jobs_after s moment (Expire root)) s.items (λ job. restored_same s moment (Expire root) job refl)))
  where
    due_there : (o : Option ObjectRow) → is_due_row moment o ≡ true → is_some o ≡ true
    due_there None due = absurd (false≢true due)
    due_there (Some row) due = refl

    none_is : (o : Option ℕ) → is_none o ≡ true → o ≡ None
    none_is None none = refl
    none_is (Some x) none = absurd (false≢true none)

unlink_falls : (s : State) (moment : ℕ) (tag : Tag) (edge from to name : ℕ) → is_legal s (record { moment = moment; what = Unlink tag edge from to name }) ≡ true → OwnedStand s → EndsStand s.graph →
    room (step s (record { moment = moment; what = Unlink tag edge from to name })) ≤ room s
unlink_falls s moment tag edge from to name legal stand ends = by_start (is_some (unlink_start s edge from to name)) refl
  where
    line : NoneOf (refusals s moment (Unlink tag edge from to name))
    line = none_of (refusals s moment (Unlink tag edge from to name)) (allowed_of s (record { moment = moment; what = Unlink tag edge from to name }) legal)

    stays : OwnersStay s (step s (record { moment = moment; what = Unlink tag edge from to name }))
    stays =
        plain_stays s moment (Unlink tag edge from to name) legal stand ends
        (λ id some. some_over (is_some (unlink_start s edge from to name) && eqb to id) s.len (owner s id) some)

    items : items_owed (step s (record { moment = moment; what = Unlink tag edge from to name })) ≤ items_owed s
    items = same_items_owed s.jobs (jobs_after s moment (Unlink tag edge from to name)) s.items (λ job. restored_same s moment (Unlink tag edge from to name) job refl)

    edges : 1 + edges_owed (step s (record { moment = moment; what = Unlink tag edge from to name })) ≤ edges_owed s
    edges = taken_edge_owed s.graph (key_of edge from to) (edge_there s (key_of edge from to) line.1.1.1.1.0)

    by_start : (b : Bool) → is_some (unlink_start s edge from to name) ≡ b → room (step s (record { moment = moment; what = Unlink tag edge from to name })) ≤ room s
    by_start true is =
        room_from s.len _ _ _ _ _ _ _ _
        (starting_room _ _ _ _ _ _ _ _
        (rooted_objects_owed s (step s (record { moment = moment; what = Unlink tag edge from to name })) to refl stays (there s to line.1.0) (free s to line.1.1.1.0)
        (rooted s moment (Unlink tag edge from to name) to legal stand ends
        (ap (λ (b : Bool). is_some (cond (b && eqb to to) (Some s.len) (owner s to))) is ∙ root_hit s.len to (owner s to))))
        edges (started_one_owed s.jobs s.len (unlink_start s edge from to name)) items)
    by_start false is =
        room_from s.len _ _ _ _ _ _ _ _
        (unlink_room _ _ _ _ _ _ _ _
        (same_objects_owed s (step s (record { moment = moment; what = Unlink tag edge from to name })) refl stays)
        edges (started_owed s.jobs s.len (unlink_start s edge from to name) is) items)

cut_falls : (s : State) (moment job edge from to : ℕ) → is_legal s (record { moment = moment; what = Cut job edge from to }) ≡ true → OwnedStand s → EndsStand s.graph → Idle s →
    room (step s (record { moment = moment; what = Cut job edge from to })) ≤ room s
cut_falls s moment job edge from to legal stand ends idle =
    let line = and_parts (edge_stands s.graph (key_of edge from to)) (is_owned_by s job from || is_owned_by s job to)
    (allowed_of s (record { moment = moment; what = Cut job edge from to }) legal) in
    room_from s.len _ _ _ _ _ _ _ _
    (unlink_room _ _ _ _ _ _ _ _
    (same_objects_owed s (step s (record { moment = moment; what = Cut job edge from to })) refl
    (plain_stays s moment (Cut job edge from to) legal stand ends (λ id some. some_over _ job (owner s id) some)))
    (taken_edge_owed s.graph (key_of edge from to) line.0)
    (erased_jobs_owed s.jobs job moment)
    (cut_items (elim (or_cases (is_owned_by s job from) (is_owned_by s job to) line.1) [ inl own ↦ not_restored s job from idle own | inr own ↦ not_restored s job to idle own ])))
  where
    cut_items : is_restored s.jobs job ≡ false → items_owed (step s (record { moment = moment; what = Cut job edge from to })) ≤ items_owed s
    cut_items none =
        omega (
          arith,
          sum_by-append (owed_for_item (jobs_after s moment (Cut job edge from to))) s.items (edge_item s.graph job (edge_at s.graph (key_of edge from to))),
          same_items_owed s.jobs (jobs_after s moment (Cut job edge from to)) s.items (λ other. restored_same s moment (Cut job edge from to) other refl),
          edge_item_owed (jobs_after s moment (Cut job edge from to)) s.graph job (edge_at s.graph (key_of edge from to)) (restored_same s moment (Cut job edge from to) job refl ∙ none),
        )

-- of the objects that an erasure leaves, each has the owner that it had

left_case : (f g : ObjectRow → ℕ) (p : ObjectRow → Bool) (x : ObjectRow) (xs : List ObjectRow) (b : Bool) → p x ≡ b → (p x ≡ true → f x ≤ g x) →
    sum_by f (filter p xs) ≤ sum_by g (filter p xs) → sum_by f (cond b (x ∷ filter p xs) (filter p xs)) ≤ sum_by g (cond b (x ∷ filter p xs) (filter p xs))
left_case f g p x xs true is less IH =
    let here : f x ≤ g x = less is in omega (arith, sum_by-cons f x (filter p xs), sum_by-cons g x (filter p xs))
left_case f g p x xs false is less IH = IH

sum_left : (f g : ObjectRow → ℕ) (p : ObjectRow → Bool) (xs : List ObjectRow) → ((x : ObjectRow) → p x ≡ true → f x ≤ g x) → sum_by f (filter p xs) ≤ sum_by g (filter p xs)
sum_left f g p [] less = omega arith
sum_left f g p (x ∷ xs) less = left_case f g p x xs (p x) refl (less x) (sum_left f g p xs less)

erase_falls : (s : State) (moment job gone : ℕ) → is_legal s (record { moment = moment; what = Erase job gone }) ≡ true → OwnedStand s → EndsStand s.graph → Idle s →
    room (step s (record { moment = moment; what = Erase job gone })) ≤ room s
erase_falls s moment job gone legal stand ends idle =
    room_from s.len _ _ _ _ _ _ _ _
    (erase_room _ _ _ _ _ _ _ _ objects (no_more _) (erased_jobs_owed s.jobs job moment) items)
  where
    own : is_owned_by s job gone ≡ true
    own = (and_parts (is_owned_by s job gone) _ (allowed_of s (record { moment = moment; what = Erase job gone }) legal)).0

    found : (row : ObjectRow) × (object_at s.graph gone ≡ Some row)
    found = some_row (object_at s.graph gone) (stand gone job (owner_is s job gone own))

    owes_one : (o : Option ℕ) → o ≡ Some job → ◌≡◌ {A = ℕ} (cond (is_some o) 1 3) 1
    owes_one None is = absurd (cc is)
    owes_one (Some x) is = refl

    one : owed_for_object s.owners found.0 ≡ 1
    one = owes_one (owner s found.0.id) (subst (λ (n : ℕ). owner s n ≡ Some job) (sym (found_id s.graph.objects gone found.0 found.1)) (owner_is s job gone own))

    stays : (row : ObjectRow) → is_other_object gone row ≡ true →
        owed_for_object (step s (record { moment = moment; what = Erase job gone })).owners row ≤ owed_for_object s.owners row
    stays row other =
        owed_less (is_some (owner (step s (record { moment = moment; what = Erase job gone })) row.id)) (is_some (owner s row.id))
        (λ some. ap (λ (o : Option ℕ). is_some o) (owner_plain s moment (Erase job gone) legal stand ends row.id) ∙
        (apart (eqb gone row.id) (eqb row.id gone) (eqb_sym gone row.id) other ∙ some))
      where
        eqb_sym : (a b : ℕ) → eqb a b ≡ eqb b a
        eqb_sym a b = grind (arith, nat_tests)

        apart : (a b : Bool) → a ≡ b → not b ≡ true → is_some (cond a None (owner s row.id)) ≡ is_some (owner s row.id)
        apart true true is not_gone = absurd (false≢true not_gone)
        apart true false is not_gone = absurd (false≢true (sym is))
        apart false b is not_gone = refl

    objects : objects_owed (step s (record { moment = moment; what = Erase job gone })) + 1 ≤ objects_owed s
    objects =
        omega (
          arith,
          one,
          sum_left (owed_for_object (step s (record { moment = moment; what = Erase job gone })).owners) (owed_for_object s.owners) (is_other_object gone) s.graph.objects stays,
          sum_without (owed_for_object s.owners) (has_id gone) found.0 s.graph.objects found.1,
        )

    items : items_owed (step s (record { moment = moment; what = Erase job gone })) ≤ items_owed s
    items =
        omega (
          arith,
          sum_by-append (owed_for_item (jobs_after s moment (Erase job gone))) s.items (object_item job (object_at s.graph gone)),
          same_items_owed s.jobs (jobs_after s moment (Erase job gone)) s.items (λ other. restored_same s moment (Erase job gone) other refl),
          object_item_owed (jobs_after s moment (Erase job gone)) job (object_at s.graph gone)
              (restored_same s moment (Erase job gone) job refl ∙ not_restored s job gone idle own),
        )

purge_falls : (s : State) (moment job : ℕ) → is_legal s (record { moment = moment; what = Purge job }) ≡ true → OwnedStand s → EndsStand s.graph →
    room (step s (record { moment = moment; what = Purge job })) ≤ room s
purge_falls s moment job legal stand ends =
    room_from s.len _ _ _ _ _ _ _ _
    (purge_room _ _ _ _ _ _ _ _
    (same_objects_owed s (step s (record { moment = moment; what = Purge job })) refl (plain_stays s moment (Purge job) legal stand ends (λ id some. some)))
    (no_more _)
    (by_row (job_row s.jobs job) refl (allowed_of s (record { moment = moment; what = Purge job }) legal))
    (same_items_owed s.jobs (jobs_after s moment (Purge job)) s.items (λ other. restored_same s moment (Purge job) other refl)))
  where
    not_true : (b : Bool) → not b ≡ true → b ≡ false
    not_true true is = absurd (false≢true is)
    not_true false is = refl

    by_row : (o : Option JobRow) → job_row s.jobs job ≡ o → may_purge s moment o ≡ true → jobs_owed (step s (record { moment = moment; what = Purge job })) + 1 ≤ jobs_owed s
    by_row None at may = absurd (false≢true may)
    by_row (Some row) at may =
        purged_jobs_owed s.jobs job row at
        (not_true row.purged
        (and_parts (eqb (owned s row.start) 0) (not row.purged)
        (and_parts (eqb (owned s row.start) 0 && not row.purged) (eqb (left s row.start) 0)
        (and_parts (eqb (owned s row.start) 0 && not row.purged && eqb (left s row.start) 0) (window_passed s moment row) may).0).0).1)

-- a put: what is put back owes what the item owed less the entry
open_owes : (s : State) (logged : Logged) → is_open s.jobs logged ≡ true → owed_for_item s.jobs logged ≡ cond (is_object_item logged.item) 4 2
open_owes s logged open_now = ap (λ (b : Bool). owes b) open_now
  where
    owes : Bool → ℕ
    owes b = cond b (cond (is_object_item logged.item) 4 2) 0

least_four : (b : Bool) → 0 + 0 + 1 ≤ cond b 4 2
least_four true = omega arith
least_four false = omega arith

owes_three : (b : Bool) → cond b 1 3 ≤ 3
owes_three true = omega arith
owes_three false = omega arith

-- how much more the graph owes after a put
pub record PutOwes (s : State) (g : Graph) (it : Item) : Type 0 where
  pub n : ℕ
  pub m : ℕ
  pub objects : sum_by (owed_for_object s.owners) g.objects ≤ objects_owed s + n
  pub edges : sum_by owed_for_edge g.edges ≤ edges_owed s + m
  pub both : n + m + 1 ≤ cond (is_object_item it) 4 2

put_owes : (s : State) (it : Item) (o : Option Cause) → PutOwes s (changed s.graph (put_unless o it)) it
put_owes s it (Some c) = record {
  n = 0;
  m = 0;
  objects = omega arith;
  edges = omega arith;
  both = least_four (is_object_item it);
}
put_owes s (item.Object job row) None = record {
  n = 3;
  m = 0;
  objects = omega (arith, sum_put_object (owed_for_object s.owners) row s.graph.objects, owes_three (is_some (owner s row.id)));
  edges = omega arith;
  both = omega arith;
}
put_owes s (item.Edge job row from_birth to_birth) None = record {
  n = 0;
  m = 1;
  objects = omega arith;
  edges = omega (arith, sum_put_edge owed_for_edge row s.graph.edges);
  both = omega arith;
}

put_graph : (s : State) (moment job i : ℕ) (logged : Logged) → slice_get s.items i ≡ Some logged →
    changed s.graph (put_unless (judged s logged.item) logged.item) ≡ (step s (record { moment = moment; what = Put job i })).graph
put_graph s moment job i logged at = ap (λ (o : Option Logged). changed s.graph (put_change s o)) (sym at)

put_falls : (s : State) (moment job i : ℕ) → is_legal s (record { moment = moment; what = Put job i }) ≡ true → OwnedStand s → EndsStand s.graph →
    room (step s (record { moment = moment; what = Put job i })) ≤ room s
put_falls s moment job i legal stand ends = by_item (slice_get s.items i) refl (allowed_of s (record { moment = moment; what = Put job i }) legal)
  where
    stays : (row : ObjectRow) → owed_for_object (step s (record { moment = moment; what = Put job i })).owners row ≤ owed_for_object s.owners row
    stays row =
        owed_less (is_some (owner (step s (record { moment = moment; what = Put job i })) row.id)) (is_some (owner s row.id))
        (plain_stays s moment (Put job i) legal stand ends (λ id some. some) row.id)

    by_item : (o : Option Logged) → slice_get s.items i ≡ o → may_put s job o ≡ true → room (step s (record { moment = moment; what = Put job i })) ≤ room s
    by_item None at may = absurd (false≢true may)
    by_item (Some logged) at may =
        let owes : PutOwes s (step s (record { moment = moment; what = Put job i })).graph logged.item =
        subst (λ (g : Graph). PutOwes s g logged.item) (put_graph s moment job i logged at) (put_owes s logged.item (judged s logged.item)) in
        let open_now : is_open s.jobs logged ≡ true =
        (and_parts (eqb (job_of logged.item) job) (is_open s.jobs logged)
        (and_parts (eqb (job_of logged.item) job && is_open s.jobs logged) (ends_handled s.items logged.item) may).0).1 in
        room_from s.len _ _ _ _ _ _ _ _
        (put_room _ _ _ _ _ _ _ _ owes.n owes.m
        (more (sum_no_more (owed_for_object (step s (record { moment = moment; what = Put job i })).owners) (owed_for_object s.owners)
        (step s (record { moment = moment; what = Put job i })).graph.objects stays) owes.objects)
        owes.edges (no_more _)
        (less _ _ _ _ _ (sum_handled (owed_for_item s.jobs) s.items i (outcome s (slice_get s.items i)) logged at) (open_owes s logged open_now) owes.both))
      where
        more : {a b c : ℕ} → a ≤ b → b ≤ c → a ≤ c
        more one two = omega arith

        less : (d' f d x k : ℕ) → d' + f ≡ d + 0 → f ≡ x → k ≤ x → d' + k ≤ d
        less d' f d x k one two three = omega arith

-- no unlink, delete or step raises the room
pub no_rise : (s : State) (moment : ℕ) (what : What) → is_legal s (record { moment = moment; what = what }) ≡ true → OwnedStand s → EndsStand s.graph → Idle s →
    never_raises what ≡ true → room (step s (record { moment = moment; what = what })) ≤ room s
no_rise s moment (Create tag kind id size) legal stand ends idle quiet = absurd (false≢true quiet)
no_rise s moment (Update tag id size) legal stand ends idle quiet = absurd (false≢true quiet)
no_rise s moment (Link tag edge from to size) legal stand ends idle quiet = absurd (false≢true quiet)
no_rise s moment (Unlink tag edge from to name) legal stand ends idle quiet = unlink_falls s moment tag edge from to name legal stand ends
no_rise s moment (Delete tag root name) legal stand ends idle quiet = delete_falls s moment tag root name legal stand ends
no_rise s moment (Restore tag job) legal stand ends idle quiet = absurd (false≢true quiet)
no_rise s moment (Expire root) legal stand ends idle quiet = expire_falls s moment root legal stand ends
no_rise s moment (Cut job edge from to) legal stand ends idle quiet = cut_falls s moment job edge from to legal stand ends idle
no_rise s moment (Erase job gone) legal stand ends idle quiet = erase_falls s moment job gone legal stand ends idle
no_rise s moment (Put job i) legal stand ends idle quiet = put_falls s moment job i legal stand ends
no_rise s moment (Purge job) legal stand ends idle quiet = purge_falls s moment job legal stand ends

-- the room stays within its limit
pub within_step : (s : State) (moment : ℕ) (what : What) → is_legal s (record { moment = moment; what = what }) ≡ true → OwnedStand s → EndsStand s.graph → Idle s →
    room s ≤ room_limit → room (step s (record { moment = moment; what = what })) ≤ room_limit
within_step s moment (Create tag kind id size) legal stand ends idle within =
    room_left s moment (Create tag kind id size) (none_of (refusals s moment (Create tag kind id size)) (allowed_of s (record { moment = moment; what = Create tag kind id size }) legal)).1.1.0
within_step s moment (Update tag id size) legal stand ends idle within =
    room_left s moment (Update tag id size) (none_of (refusals s moment (Update tag id size)) (allowed_of s (record { moment = moment; what = Update tag id size }) legal)).1.1.1.0
within_step s moment (Link tag edge from to size) legal stand ends idle within =
    room_left s moment (Link tag edge from to size)
    (none_of (refusals s moment (Link tag edge from to size)) (allowed_of s (record { moment = moment; what = Link tag edge from to size }) legal)).1.1.1.1.1.1.1.1.0
within_step s moment (Unlink tag edge from to name) legal stand ends idle within = below (no_rise s moment (Unlink tag edge from to name) legal stand ends idle refl) within
within_step s moment (Delete tag root name) legal stand ends idle within = below (no_rise s moment (Delete tag root name) legal stand ends idle refl) within
within_step s moment (Restore tag job) legal stand ends idle within =
    room_left s moment (Restore tag job)
    (none_of (refusals s moment (Restore tag job)) (and_parts (is_named_so s job (job_row s.jobs job)) _ (allowed_of s (record { moment = moment; what = Restore tag job }) legal)).1).1.1.1.1.0
within_step s moment (Expire root) legal stand ends idle within = below (no_rise s moment (Expire root) legal stand ends idle refl) within
within_step s moment (Cut job edge from to) legal stand ends idle within = below (no_rise s moment (Cut job edge from to) legal stand ends idle refl) within
within_step s moment (Erase job gone) legal stand ends idle within = below (no_rise s moment (Erase job gone) legal stand ends idle refl) within
within_step s moment (Put job i) legal stand ends idle within = below (no_rise s moment (Put job i) legal stand ends idle refl) within
within_step s moment (Purge job) legal stand ends idle within = below (no_rise s moment (Purge job) legal stand ends idle refl) within
