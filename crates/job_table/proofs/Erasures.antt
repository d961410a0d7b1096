-- Cuts and erasures: what they take of a job, and what it owns.
use Rattle.std.proofs.Common.{◌≡◌, ℕ, ◌+◌, ◌-◌, ◌<◌, ◌≤◌, Bool, true, false, cond, not, ◌&&◌, ◌||◌, List, [], ◌∷◌, ◌++◌, map, Option, Some, None, is_some, refl, sym, ◌∙◌, ap, subst, inl, inr, ◌⊎◌, arith, eqb}
use Rattle.std.specs.Prelude.{find, filter, nat_eq, is_none, sum_by}
use Rattle.std.proofs.lemmas.List.Sums.{sum_by-cons}
use Rattle.delf_model.specs.declared.rows.ObjectRow.{ObjectRow}
use Rattle.delf_model.specs.declared.rows.EdgeRow.{EdgeRow}
use Rattle.delf_model.specs.declared.rows.Item.{Item}
use Rattle.delf_model.specs.declared.rows.Item.TheVariants as item
use Rattle.delf_model.specs.declared.entry.What.TheVariants.{Cut, Erase}
use Rattle.delf_model.specs.Graph.{changed, TakesEdge, TakesObject, object_at, edge_at, edge_stands, has_id, is_touched, is_other_object}
use Rattle.delf_model.specs.State.{State, JobRow, Logged, owner, owned, owner_in, is_restored, starts_at, is_job, is_owned_by, job_of}
use Rattle.delf_model.specs.Step.{step, jobs_after, items_after, erased_at, unhandled, birth_of, edge_item, object_item}
use Rattle.delf_model.specs.Owners.{key_of, condemns}
use Rattle.delf_model.specs.Room.{owed, owed_for_edge, owed_for_job, owed_for_item}
use Rattle.delf_model.specs.Legal.{is_legal}
use Rattle.job_table.specs.Table.{Table, IsTableOf, Keeps, starts_rise, owner_among, owned_among}
use Rattle.job_table.specs.Parts.{changed_first}
use Rattle.job_table.specs.Notes.{noted_item}
use Rattle.job_table.proofs.Lookups.{both}
use Rattle.job_table.proofs.Passing.{one_if, no_owner}
use Rattle.job_table.proofs.Steps.{Ordered, ids_after, eqb_is}
use Rattle.job_table.proofs.Totals.{weighed, objects_rise_filter}
use Rattle.job_table.proofs.Moves.{Same, Gained, Dropped, cut_same, cut_gained, dropped_moved, gained_pairs, dropped_pairs}
use Rattle.job_table.proofs.Rows.{is_restored-erased, starts_wider, starts_map, owed_items-same, owed_items-push, owed_jobs-same, changed_is_map, erased_other}
use Rattle.job_table.proofs.Accounts.{allowed, assembled, counts_gained, counts_dropped, pairs_push, owes, owned_total, counts_for, is_job_self}
use Rattle.job_table.proofs.Begins.{some_of, same_step, unlink_edges}

-- the owner that a test found
pub owner_is : (job : ℕ) (o : Option ℕ) → is_job job o ≡ true → o ≡ Some job
owner_is job None h = absurd (cc h)
owner_is job (Some other) h = ap Some (eqb_is other job h)

pub at_least : (f : ObjectRow → ℕ) (id : ℕ) (row : ObjectRow) (rows : List ObjectRow) → find (has_id id) rows ≡ Some row → f row ≤ sum_by f rows
at_least f id row [] e = absurd (cc e)
at_least f id row (x ∷ xs) e = go (eqb x.id id) e (at_least f id row xs)
  where
    go : (b : Bool) → cond b (Some x) (find (has_id id) xs) ≡ Some row → (find (has_id id) xs ≡ Some row → f row ≤ sum_by f xs) → f row ≤ sum_by f (x ∷ xs)
    go true h more = let at : x ≡ row = cc h in omega (arith, sum_by-cons f x xs, ap f at)
    go false h more = omega (arith, sum_by-cons f x xs, more h)

-- an owned object is in the graph
pub owned_there : (s : State) (id job : ℕ) → Keeps s → owner s id ≡ Some job → (row : ObjectRow) × (object_at s.graph id ≡ Some row)
owned_there s id job k e = go (object_at s.graph id) refl
  where
    go : (o : Option ObjectRow) → object_at s.graph id ≡ o → (row : ObjectRow) × (object_at s.graph id ≡ Some row)
    go None n = absurd (cc (no_owner id s.owners s.graph.objects k.ids n, e))
    go (Some row) n = (row, n)

find_id : (id : ℕ) (row : ObjectRow) (rows : List ObjectRow) → find (has_id id) rows ≡ Some row → row.id ≡ id
find_id id row [] e = absurd (cc e)
find_id id row (x ∷ xs) e = go (eqb x.id id) refl e (find_id id row xs)
  where
    go : (b : Bool) → eqb x.id id ≡ b → cond b (Some x) (find (has_id id) xs) ≡ Some row → (find (has_id id) xs ≡ Some row → row.id ≡ id) → row.id ≡ id
    go true s h more = let at : x ≡ row = cc h in subst (λ (r : ObjectRow). r.id ≡ id) at (eqb_is x.id id s)
    go false s h more = more h

-- a job that owns an object counts it
pub owns_one : (s : State) (id job : ℕ) → Ordered s.graph → Keeps s → owner s id ≡ Some job → 0 < owned s job
owns_one s id job o k e =
    let row = owned_there s id job k e in
    let weight : weighed (counts_for job) s.owners row.0 ≡ 1 =
    ap (λ (n : ℕ). counts_for job (owner_in s.owners n)) (find_id id row.0 s.graph.objects row.1) ∙ ap (counts_for job) e ∙ ap one_if (is_job_self job) in
    omega (arith, owned_total job s k o.objects, at_least (weighed (counts_for job) s.owners) id row.0 s.graph.objects row.1, weight)

-- so it is not restored
pub owner_idle : (s : State) (id job : ℕ) → Ordered s.graph → Keeps s → owner s id ≡ Some job → is_restored s.jobs job ≡ false
owner_idle s id job o k e = go (is_restored s.jobs job) refl
  where
    go : (b : Bool) → is_restored s.jobs job ≡ b → b ≡ false
    go true h = absurd (let n = k.idle job h in let m = owns_one s id job o k e in omega arith)
    go false h = refl

erased_start : (job moment : ℕ) (row : JobRow) → (erased_at job moment row).start ≡ row.start
erased_start job moment row = go (nat_eq row.start job)
  where
    go : (b : Bool) → (cond b (record row { last = Some moment }) row).start ≡ row.start
    go true = refl
    go false = refl

erased_purged : (job moment : ℕ) (row : JobRow) → (erased_at job moment row).purged ≡ row.purged
erased_purged job moment row = go (nat_eq row.start job)
  where
    go : (b : Bool) → (cond b (record row { last = Some moment }) row).purged ≡ row.purged
    go true = refl
    go false = refl

pub starts_erased : (s : State) (job m : ℕ) → Keeps s → starts_rise 0 (s.len + 1) (map (erased_at job m) s.jobs) ≡ true
starts_erased s job m k = starts_map (erased_at job m) 0 (s.len + 1) s.jobs (erased_start job m) (starts_wider 0 s.len (s.len + 1) s.jobs (omega arith) k.starts)

-- what jobs and items owe after an item was logged
pub logged_owed : (s : State) (job m : ℕ) (it : Item) → is_restored s.jobs (job_of it) ≡ false →
    sum_by (owed_for_item (map (erased_at job m) s.jobs)) (s.items ++ unhandled it ∷ []) ≡ sum_by (owed_for_item s.jobs) s.items
logged_owed s job m it n =
    owed_items-push (map (erased_at job m) s.jobs) s.items it (is_restored-erased job m (job_of it) s.jobs ∙ n)
    ∙ owed_items-same s.jobs (map (erased_at job m) s.jobs) s.items (λ other. is_restored-erased job m other s.jobs)

pub erased_jobs_owed : (s : State) (job m : ℕ) → sum_by owed_for_job (map (erased_at job m) s.jobs) ≡ sum_by owed_for_job s.jobs
erased_jobs_owed s job m = owed_jobs-same (erased_at job m) s.jobs (erased_purged job m)

-- cut

abbrev pub cut_item : State → ℕ → EdgeRow → Item
cut_item s job row = item.Edge job row (birth_of s.graph row.key.from) (birth_of s.graph row.key.to)

pub record CutFacts (s : State) (m job edge from to : ℕ) : Type 0 where
  pub row : EdgeRow
  pub edge_is : edge_at s.graph (key_of edge from to) ≡ Some row
  pub owns : (owner s from ≡ Some job) ⊎ (owner s to ≡ Some job)
  pub idle : is_restored s.jobs job ≡ false
  pub target : (target : ObjectRow) × (object_at s.graph to ≡ Some target)

pub cut_facts : (s : State) (m job edge from to : ℕ) → Ordered s.graph → Keeps s → is_legal s (record { moment = m; what = Cut job edge from to }) ≡ true →
    CutFacts s m job edge from to
cut_facts s m job edge from to o k l =
    let a = both (edge_stands s.graph (key_of edge from to)) (is_owned_by s job from || is_owned_by s job to) (allowed s (record { moment = m; what = Cut job edge from to }) l) in
    let row = some_of (edge_at s.graph (key_of edge from to)) a.0 in
    let owns : (owner s from ≡ Some job) ⊎ (owner s to ≡ Some job) = pick (is_owned_by s job from) (is_owned_by s job to) refl refl a.1 in
    record {
      row = row.0;
      edge_is = row.1;
      owns = owns;
      idle = idle owns;
      target = some_of (object_at s.graph to) (o.ends.target (key_of edge from to) a.0);
    }
  where
    pick : (a b : Bool) → is_owned_by s job from ≡ a → is_owned_by s job to ≡ b → (a || b) ≡ true → (owner s from ≡ Some job) ⊎ (owner s to ≡ Some job)
    pick true b e f h = inl (owner_is job (owner s from) e)
    pick false true e f h = inr (owner_is job (owner s to) f)
    pick false false e f h = absurd (cc h)

    idle : (owner s from ≡ Some job) ⊎ (owner s to ≡ Some job) → is_restored s.jobs job ≡ false
    idle (inl e) = owner_idle s from job o k e
    idle (inr e) = owner_idle s to job o k e

pub cut_items : (s : State) (m job edge from to : ℕ) (f : CutFacts s m job edge from to) →
    items_after s (Cut job edge from to) ≡ s.items ++ unhandled (cut_item s job f.row) ∷ []
cut_items s m job edge from to f = ap (λ (v : Option EdgeRow). s.items ++ edge_item s.graph job v) f.edge_is

-- whether a cut passes its job on
abbrev pub passes : State → ℕ → ℕ → ℕ → Bool
passes s edge from to = is_none (owner s to) && condemns s.rules (changed s.graph (TakesEdge (key_of edge from to))) (key_of edge from to)

cut_stands : (s : State) (m job edge from to : ℕ) (f : CutFacts s m job edge from to) → edge_stands s.graph (key_of edge from to) ≡ true
cut_stands s m job edge from to f = ap is_some f.edge_is

pub cut_owed_rest : (s : State) (m job edge from to : ℕ) → Ordered s.graph → (f : CutFacts s m job edge from to) →
    sum_by owed_for_edge (changed s.graph (TakesEdge (key_of edge from to))).edges + sum_by owed_for_job (jobs_after s m (Cut job edge from to)) +
    sum_by (owed_for_item (jobs_after s m (Cut job edge from to))) (items_after s (Cut job edge from to)) + 1 ≡
    sum_by owed_for_edge s.graph.edges + sum_by owed_for_job s.jobs + sum_by (owed_for_item s.jobs) s.items
cut_owed_rest s m job edge from to o f =
    omega (
      arith,
      unlink_edges s (key_of edge from to) o (cut_stands s m job edge from to f),
      erased_jobs_owed s job m,
      ap (sum_by (owed_for_item (map (erased_at job m) s.jobs))) (cut_items s m job edge from to f),
      logged_owed s job m (cut_item s job f.row) f.idle,
    )

pub cut_plain : (s : State) (m job edge from to : ℕ) → Keeps s → CutFacts s m job edge from to → passes s edge from to ≡ false →
    Same s.owners s.graph.objects (step s (record { moment = m; what = Cut job edge from to })).owners s.graph.objects
cut_plain s m job edge from to k f p =
    cut_same s.rules s.graph (key_of edge from to) s.len s.owners k.ids (cut_stands s m job edge from to f) (ap is_some f.target.1) p

pub cut_plain_owed : (s : State) (m job edge from to : ℕ) → Ordered s.graph → Keeps s → CutFacts s m job edge from to → passes s edge from to ≡ false →
    owed (step s (record { moment = m; what = Cut job edge from to })) + 1 ≡ owed s
cut_plain_owed s m job edge from to o k f p =
    omega (arith, (cut_plain s m job edge from to k f p).weight owes, cut_owed_rest s m job edge from to o f)

pub cut_plain_step : (s : State) (m job edge from to : ℕ) (t : Table) → Ordered s.graph → IsTableOf s t → (f : CutFacts s m job edge from to) →
    passes s edge from to ≡ false →
    IsTableOf (step s (record { moment = m; what = Cut job edge from to })) (noted_item t m job (cut_item s job f.row) (t.owed - 1))
cut_plain_step s m job edge from to t o h f p =
    let less = cut_plain_owed s m job edge from to o h.keeps f p in
    same_step s (record { moment = m; what = Cut job edge from to }) t s.graph.objects o h (cut_plain s m job edge from to h.keeps f p)
    (ids_after s.rules s.graph (changed s.graph (TakesEdge (key_of edge from to))) None s.len s.owners s.graph.objects)
    o.objects (noted_item t m job (cut_item s job f.row) (t.owed - 1)) refl refl refl
    (omega (arith, h.owed, less))
    (ap (λ (l : List Logged). l ++ unhandled (cut_item s job f.row) ∷ []) h.items ∙ sym (cut_items s m job edge from to f))
    (ap (changed_first (starts_at job) (erased_at job m)) h.jobs ∙ changed_is_map (erased_at job m) job 0 s.len s.jobs (erased_other job m) h.keeps.starts) h.seats (omega (arith, less, h.keeps.within))
    (starts_erased s job m h.keeps)
    (λ other r. h.keeps.idle other (sym (is_restored-erased job m other s.jobs) ∙ r))

-- a cut that passes its job on is by the owner of its source
cut_source : (s : State) (m job edge from to : ℕ) → CutFacts s m job edge from to → passes s edge from to ≡ true → owner s from ≡ Some job
cut_source s m job edge from to f p = go f.owns
  where
    go : (owner s from ≡ Some job) ⊎ (owner s to ≡ Some job) → owner s from ≡ Some job
    go (inl e) = e
    go (inr e) = absurd (let q = (both (is_none (owner s to)) (condemns s.rules (changed s.graph (TakesEdge (key_of edge from to))) (key_of edge from to)) p).0 in let z : is_none (Some job) ≡ true = ap is_none (sym e) ∙ q in cc z)

none_is : (o : Option ℕ) → is_none o ≡ true → o ≡ None
none_is None h = refl
none_is (Some n) h = absurd (cc h)

pub cut_passing : (s : State) (m job edge from to : ℕ) → Ordered s.graph → Keeps s → CutFacts s m job edge from to → passes s edge from to ≡ true →
    Gained to job s.owners s.graph.objects (step s (record { moment = m; what = Cut job edge from to })).owners s.graph.objects
cut_passing s m job edge from to o k f p =
    let parts = both (is_none (owner s to)) (condemns s.rules (changed s.graph (TakesEdge (key_of edge from to))) (key_of edge from to)) p in
    cut_gained s.rules s.graph (key_of edge from to) job s.len s.owners f.target.0 k.ids o.objects (cut_stands s m job edge from to f) f.target.1
    (none_is (owner s to) parts.0) (cut_source s m job edge from to f p) parts.1

pub cut_passing_owed : (s : State) (m job edge from to : ℕ) → Ordered s.graph → Keeps s → CutFacts s m job edge from to → passes s edge from to ≡ true →
    owed (step s (record { moment = m; what = Cut job edge from to })) + 3 ≡ owed s
cut_passing_owed s m job edge from to o k f p =
    omega (arith, (cut_passing s m job edge from to o k f p).weight owes, cut_owed_rest s m job edge from to o f)

pub cut_passing_step : (s : State) (m job edge from to : ℕ) (t : Table) → Ordered s.graph → IsTableOf s t → (f : CutFacts s m job edge from to) →
    passes s edge from to ≡ true →
    IsTableOf (step s (record { moment = m; what = Cut job edge from to }))
    (record (noted_item t m job (cut_item s job f.row) (t.owed - 3)) { owners = t.owners ++ (to, job) ∷ [] })
cut_passing_step s m job edge from to t o h f p =
    let less = cut_passing_owed s m job edge from to o h.keeps f p in
    let next = step s (record { moment = m; what = Cut job edge from to }) in
    let g = cut_passing s m job edge from to o h.keeps f p in
    let counts = counts_gained s.owners next.owners s.graph.objects s.graph.objects h.keeps.ids
    (ids_after s.rules s.graph (changed s.graph (TakesEdge (key_of edge from to))) None s.len s.owners s.graph.objects) o.objects o.objects to job g in
    assembled s (record { moment = m; what = Cut job edge from to })
    (record (noted_item t m job (cut_item s job f.row) (t.owed - 3)) { owners = t.owners ++ (to, job) ∷ [] }) h.keeps
    (ap (λ (n : ℕ). n + 1) h.len) refl (omega (arith, h.owed, less))
    (gained_pairs to job s.owners next.owners s.graph.objects s.graph.objects t.owners g h.owners)
    (λ other. pairs_push to job other t.owners ∙ omega (arith, h.owned other, counts other))
    (ap (λ (l : List Logged). l ++ unhandled (cut_item s job f.row) ∷ []) h.items ∙ sym (cut_items s m job edge from to f))
    (ap (changed_first (starts_at job) (erased_at job m)) h.jobs ∙ changed_is_map (erased_at job m) job 0 s.len s.jobs (erased_other job m) h.keeps.starts) h.seats (omega (arith, less, h.keeps.within))
    (starts_erased s job m h.keeps)
    (λ other r. idle other counts (sym (is_restored-erased job m other s.jobs) ∙ r) (nat_eq job other) refl)
  where
    idle : (other : ℕ) → ((j : ℕ) → owned (step s (record { moment = m; what = Cut job edge from to })) j ≡ owned s j + one_if (nat_eq job j)) →
        is_restored s.jobs other ≡ true → (b : Bool) → nat_eq job other ≡ b → owned (step s (record { moment = m; what = Cut job edge from to })) other ≡ 0
    idle other c r true e = absurd (cc (f.idle, ap (is_restored s.jobs) (eqb_is job other e), r))
    idle other c r false e = c other ∙ ap (λ (b : Bool). owned s other + one_if b) e ∙ omega (arith, h.keeps.idle other r)

-- erase

pub record EraseFacts (s : State) (job id : ℕ) : Type 0 where
  pub row : ObjectRow
  pub row_is : object_at s.graph id ≡ Some row
  pub owns : owner s id ≡ Some job
  pub idle : is_restored s.jobs job ≡ false

pub erase_facts : (s : State) (m job id : ℕ) → Ordered s.graph → Keeps s → is_legal s (record { moment = m; what = Erase job id }) ≡ true → EraseFacts s job id
erase_facts s m job id o k l =
    let a = both (is_owned_by s job id) (not (is_touched s.graph id)) (allowed s (record { moment = m; what = Erase job id }) l) in
    let owns = owner_is job (owner s id) a.0 in
    let row = owned_there s id job k owns in
    record { row = row.0; row_is = row.1; owns = owns; idle = owner_idle s id job o k owns }

pub erase_items : (s : State) (job id : ℕ) (f : EraseFacts s job id) →
    items_after s (Erase job id) ≡ s.items ++ unhandled (item.Object job f.row) ∷ []
erase_items s job id f = ap (λ (v : Option ObjectRow). s.items ++ object_item job v) f.row_is

pub erase_dropped : (s : State) (m job id : ℕ) → Ordered s.graph → Keeps s → EraseFacts s job id →
    Dropped id job s.owners s.graph.objects (step s (record { moment = m; what = Erase job id })).owners (filter (is_other_object id) s.graph.objects)
erase_dropped s m job id o k f = dropped_moved s.rules s.graph id job s.len s.owners f.row k.ids o.objects f.row_is f.owns

pub erase_owed : (s : State) (m job id : ℕ) → Ordered s.graph → Keeps s → EraseFacts s job id →
    owed (step s (record { moment = m; what = Erase job id })) + 1 ≡ owed s
erase_owed s m job id o k f =
    omega (
      arith,
      (erase_dropped s m job id o k f).weight owes,
      erased_jobs_owed s job m,
      ap (sum_by (owed_for_item (map (erased_at job m) s.jobs))) (erase_items s job id f),
      logged_owed s job m (item.Object job f.row) f.idle,
    )

pub erase_step : (s : State) (m job id : ℕ) (t : Table) (left : List (ℕ × ℕ)) → Ordered s.graph → IsTableOf s t → (f : EraseFacts s job id) →
    ((other : ℕ) → owner_among left other ≡ cond (nat_eq other id) None (owner_among t.owners other)) →
    ((other : ℕ) → owned_among left other + cond (is_job other (owner_among t.owners id)) 1 0 ≡ owned_among t.owners other) →
    IsTableOf (step s (record { moment = m; what = Erase job id })) (record (noted_item t m job (item.Object job f.row) (t.owed - 1)) { owners = left })
erase_step s m job id t left o h f owners owned' =
    let less = erase_owed s m job id o h.keeps f in
    let next = step s (record { moment = m; what = Erase job id }) in
    let rows = filter (is_other_object id) s.graph.objects in
    let g = erase_dropped s m job id o h.keeps f in
    let counts = counts_dropped s.owners next.owners s.graph.objects rows h.keeps.ids
    (ids_after s.rules s.graph (changed s.graph (TakesObject id)) None s.len s.owners rows) o.objects (objects_rise_filter id s.graph.objects o.objects) id job g in
    assembled s (record { moment = m; what = Erase job id }) (record (noted_item t m job (item.Object job f.row) (t.owed - 1)) { owners = left }) h.keeps
    (ap (λ (n : ℕ). n + 1) h.len) refl (omega (arith, h.owed, less))
    (dropped_pairs id job s.owners next.owners s.graph.objects rows t.owners left g h.owners owners)
    (λ other. let was : cond (is_job other (owner_among t.owners id)) 1 0 ≡ one_if (nat_eq job other) = ap (λ (v : Option ℕ). one_if (is_job other v)) (h.owners id ∙ f.owns) in
    omega (arith, owned' other, was, h.owned other, counts other))
    (ap (λ (l : List Logged). l ++ unhandled (item.Object job f.row) ∷ []) h.items ∙ sym (erase_items s job id f))
    (ap (changed_first (starts_at job) (erased_at job m)) h.jobs ∙ changed_is_map (erased_at job m) job 0 s.len s.jobs (erased_other job m) h.keeps.starts) h.seats (omega (arith, less, h.keeps.within))
    (starts_erased s job m h.keeps)
    (λ other r. let was : owned s other ≡ 0 = h.keeps.idle other (sym (is_restored-erased job m other s.jobs) ∙ r) in omega (arith, counts other, was))
