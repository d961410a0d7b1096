-- The entries that start a job: a Delete, an Unlink and an Expire.
use Rattle.std.proofs.Common.{◌≡◌, ℕ, ◌+◌, ◌-◌, ◌≤◌, Bool, true, false, cond, not, ◌&&◌, ◌||◌, List, [], ◌∷◌, ◌++◌, map, Option, Some, None, is_some, refl, sym, ◌∙◌, ap, subst, arith}
use Rattle.std.specs.Prelude.{nat_eq, is_none, sum_by}
use Rattle.delf_model.specs.declared.rows.ObjectRow.{ObjectRow}
use Rattle.delf_model.specs.declared.rows.EdgeKey.{EdgeKey}
use Rattle.delf_model.specs.declared.entry.Entry.{Entry}
use Rattle.delf_model.specs.declared.entry.Tag.{Tag}
use Rattle.delf_model.specs.declared.entry.What.TheVariants.{Unlink, Delete, Restore, Expire, Purge}
use Rattle.delf_model.specs.declared.ids.JobName.{JobName}
use Rattle.delf_model.specs.declared.ids.JobName.TheVariants.{Named, Expiry}
use Rattle.delf_model.specs.RuleSet.{is_refcount}
use Rattle.delf_model.specs.Graph.{changed, TakesEdge, object_at, edge_at, edge_stands, objects_rise, has_refs}
use Rattle.delf_model.specs.State.{State, JobRow, Owners, owner, owned, is_restored, job_row, starts_at, left}
use Rattle.delf_model.specs.Owners.{owners_after, key_of, root_of_start}
use Rattle.delf_model.specs.Step.{step, new_job, jobs_after, items_after, seats_with, tag_of, started_job, row_restored_at, purged_if}
use Rattle.delf_model.specs.Room.{room, owed, room_limit, owed_for_edge, owed_for_job, owed_for_item}
use Rattle.delf_model.specs.Legal.{is_legal, is_due_row, is_named_so, may_purge, window_passed}
use Rattle.delf_model.specs.Reply.{absent, condemned, full, no_edge, no_job, pending, restored_before, window_over}
use Rattle.job_table.specs.Table.{Table, IsTableOf, Keeps, starts_rise, owner_among, owned_among, id_of_owner, id_of}
use Rattle.job_table.specs.Parts.{changed_first}
use Rattle.job_table.specs.Notes.{noted, noted_start, noted_restore, noted_purge, weight_of}
use Rattle.job_table.proofs.Lookups.{both, all_found}
use Rattle.job_table.proofs.Sums.{sum_by-filter_edge}
use Rattle.job_table.proofs.Passing.{first_passed_none}
use Rattle.job_table.proofs.Steps.{Ordered, ids_after, eqb_is, nothing_passed}
use Rattle.job_table.proofs.Moves.{Same, Gained, same_moved, unpassed_moved, gained_moved, same_pairs}
use Rattle.job_table.proofs.Rows.{is_restored-restored, is_restored-purged, starts_wider, starts_map, owed_items-same, owed_items-restored, owed_jobs-same, owed_jobs-purged, changed_is_map, purged_other, restored_other}
use Rattle.job_table.proofs.Accounts.{allowed, none_of_two, there, free, assembled, counts_same, owes}
use Rattle.job_table.proofs.Calls.{room_left, edge_there, none_pending, job_there, not_restored, start_step, jobs_started, items_started}

pub some_of : {A : Type 0} (o : Option A) → is_some o ≡ true → (a : A) × (o ≡ Some a)
some_of None h = absurd (cc h)
some_of (Some a) h = (a, refl)

pub none_of : {A : Type 0} (o : Option A) → is_none o ≡ true → o ≡ None
none_of None h = refl
none_of (Some a) h = absurd (cc h)

-- delete

pub delete_facts : (s : State) (m id name : ℕ) (tag : Tag) → is_legal s (record { moment = m; what = Delete tag id name }) ≡ true →
    (row : ObjectRow) × (object_at s.graph id ≡ Some row) × (owner s id ≡ None)
delete_facts s m id name tag l =
    let a = allowed s (record { moment = m; what = Delete tag id name }) l in
    let p = none_of_two (absent s id) _ a in
    let q = none_of_two (condemned s id) _ p.1 in
    let r = there s id p.0 in
    (r.0, r.1, free s id q.0)

pub start_gained : (s : State) (id : ℕ) (row : ObjectRow) → Ordered s.graph → Keeps s → object_at s.graph id ≡ Some row → owner s id ≡ None →
    Gained id s.len s.owners s.graph.objects (owners_after s.rules s.graph s.graph (Some id) s.len s.owners) s.graph.objects
start_gained s id row o k f n =
    gained_moved s.rules s.graph s.graph id s.len s.owners row k.ids o.objects refl f n
    (λ other. first_passed_none s.rules s.graph s.owners other s.graph.edges (all_found s.graph.edges))

pub delete_owed : (s : State) (m id name : ℕ) (tag : Tag) → Ordered s.graph → Keeps s → is_legal s (record { moment = m; what = Delete tag id name }) ≡ true →
    owed (step s (record { moment = m; what = Delete tag id name })) + 1 ≡ owed s
delete_owed s m id name tag o k l =
    let facts = delete_facts s m id name tag l in
    omega (arith, (start_gained s id facts.0 o k facts.1 facts.2).weight owes, jobs_started s id (Named name), items_started s id (Named name))

pub delete_step : (s : State) (m id name : ℕ) (tag : Tag) (t : Table) → Ordered s.graph → IsTableOf s t →
    is_legal s (record { moment = m; what = Delete tag id name }) ≡ true →
    IsTableOf (step s (record { moment = m; what = Delete tag id name })) (noted_start t m (Some tag.seat) id (Named name) (t.owed - 1))
delete_step s m id name tag t o h l =
    let facts = delete_facts s m id name tag l in
    start_step s (record { moment = m; what = Delete tag id name }) t id (Named name) 1 o h
    (start_gained s id facts.0 o h.keeps facts.1 facts.2)
    (ids_after s.rules s.graph s.graph (Some id) s.len s.owners s.graph.objects)
    (delete_owed s m id name tag o h.keeps l) (omega arith) (Some tag.seat) refl refl refl

-- expire

pub expire_facts : (s : State) (m id : ℕ) → is_legal s (record { moment = m; what = Expire id }) ≡ true →
    (row : ObjectRow) × (object_at s.graph id ≡ Some row) × (owner s id ≡ None)
expire_facts s m id l =
    let a = allowed s (record { moment = m; what = Expire id }) l in
    let p = both (is_due_row m (object_at s.graph id)) (is_none (owner s id)) a in
    let r = row_of (object_at s.graph id) p.0 in
    (r.0, r.1, none_of (owner s id) p.1)
  where
    row_of : (o : Option ObjectRow) → is_due_row m o ≡ true → (row : ObjectRow) × (o ≡ Some row)
    row_of None h = absurd (cc h)
    row_of (Some row) h = (row, refl)

pub expire_owed : (s : State) (m id : ℕ) → Ordered s.graph → Keeps s → is_legal s (record { moment = m; what = Expire id }) ≡ true →
    owed (step s (record { moment = m; what = Expire id })) + 1 ≡ owed s
expire_owed s m id o k l =
    let facts = expire_facts s m id l in
    omega (arith, (start_gained s id facts.0 o k facts.1 facts.2).weight owes, jobs_started s id (Expiry id), items_started s id (Expiry id))

pub expire_step : (s : State) (m id : ℕ) (t : Table) → Ordered s.graph → IsTableOf s t →
    is_legal s (record { moment = m; what = Expire id }) ≡ true →
    IsTableOf (step s (record { moment = m; what = Expire id })) (noted_start t m None id (Expiry id) (t.owed - 1))
expire_step s m id t o h l =
    let facts = expire_facts s m id l in
    start_step s (record { moment = m; what = Expire id }) t id (Expiry id) 1 o h
    (start_gained s id facts.0 o h.keeps facts.1 facts.2)
    (ids_after s.rules s.graph s.graph (Some id) s.len s.owners s.graph.objects)
    (expire_owed s m id o h.keeps l) (omega arith) None refl refl refl

-- an entry over the same owners

module _ (s : State) (e : Entry) (t : Table) (rows : List ObjectRow) (o : Ordered s.graph) (h : IsTableOf s t)
    (g : Same s.owners s.graph.objects (step s e).owners rows)
    (ids : map id_of_owner (step s e).owners ≡ map id_of rows) (rise : objects_rise rows ≡ true) where
  pub same_owned : (job : ℕ) → owned (step s e) job ≡ owned s job
  same_owned = counts_same s.owners (step s e).owners s.graph.objects rows h.keeps.ids ids o.objects rise g

  pub same_step : (new : Table) → new.owners ≡ t.owners → new.len ≡ t.len + 1 → new.moment ≡ e.moment → new.owed ≡ owed (step s e) →
      new.items ≡ items_after s e.what → new.jobs ≡ jobs_after s e.moment e.what → new.seats ≡ seats_with s.seats (tag_of e.what) →
      room (step s e) ≤ room_limit → starts_rise 0 (s.len + 1) (jobs_after s e.moment e.what) ≡ true →
      ((job : ℕ) → is_restored (jobs_after s e.moment e.what) job ≡ true → owned s job ≡ 0) → IsTableOf (step s e) new
  same_step new owners len moment owing items jobs seats within starts idle =
      assembled s e new h.keeps (len ∙ ap (λ (n : ℕ). n + 1) h.len) moment owing
      (λ id. ap (λ (l : List (ℕ × ℕ)). owner_among l id) owners ∙ same_pairs s.owners (step s e).owners s.graph.objects rows t.owners g h.owners id)
      (λ job. ap (λ (l : List (ℕ × ℕ)). owned_among l job) owners ∙ h.owned job ∙ sym (same_owned job))
      items jobs seats within starts
      (λ job r. same_owned job ∙ idle job r)

-- unlink

pub unlink_facts : (s : State) (m edge from to name : ℕ) (tag : Tag) → is_legal s (record { moment = m; what = Unlink tag edge from to name }) ≡ true →
    (row : ObjectRow) × (object_at s.graph to ≡ Some row) × (owner s from ≡ None) × (owner s to ≡ None) × (edge_stands s.graph (key_of edge from to) ≡ true)
unlink_facts s m edge from to name tag l =
    let a = allowed s (record { moment = m; what = Unlink tag edge from to name }) l in
    let a1 = none_of_two (absent s from) _ a in
    let a2 = none_of_two (absent s to) _ a1.1 in
    let a3 = none_of_two (condemned s from) _ a2.1 in
    let a4 = none_of_two (condemned s to) _ a3.1 in
    let a5 = none_of_two (no_edge s (key_of edge from to)) _ a4.1 in
    let r = there s to a2.0 in
    (r.0, r.1, free s from a3.0, free s to a4.0, edge_there s (key_of edge from to) a5.0)

-- whether an unlink starts a job
abbrev pub starts : State → ℕ → ℕ → ℕ → Bool
starts s edge from to = is_refcount s.rules edge && not (has_refs s.rules (changed s.graph (TakesEdge (key_of edge from to))) to)

pub unlink_edges : (s : State) (key : EdgeKey) → Ordered s.graph → edge_stands s.graph key ≡ true →
    sum_by owed_for_edge (changed s.graph (TakesEdge key)).edges + 1 ≡ sum_by owed_for_edge s.graph.edges
unlink_edges s key o e =
    let row = some_of (edge_at s.graph key) e in
    sum_by-filter_edge owed_for_edge key row.0 s.graph.edges o.edges row.1

pub unlink_started_owners : (s : State) (m edge from to name : ℕ) (tag : Tag) → starts s edge from to ≡ true →
    (step s (record { moment = m; what = Unlink tag edge from to name })).owners ≡
    owners_after s.rules s.graph (changed s.graph (TakesEdge (key_of edge from to))) (Some to) s.len s.owners
unlink_started_owners s m edge from to name tag b =
    ap (λ (v : Bool). owners_after s.rules s.graph (changed s.graph (TakesEdge (key_of edge from to))) (root_of_start (cond {A = Option (ℕ × JobName)} v (Some (to, Named name)) None)) s.len s.owners) b

pub unlink_started_jobs : (s : State) (m edge from to name : ℕ) (tag : Tag) → starts s edge from to ≡ true →
    jobs_after s m (Unlink tag edge from to name) ≡ s.jobs ++ new_job s.len to (Named name) ∷ []
unlink_started_jobs s m edge from to name tag b =
    ap (λ (v : Bool). s.jobs ++ started_job s.len (cond {A = Option (ℕ × JobName)} v (Some (to, Named name)) None)) b

pub unlink_gained : (s : State) (m edge from to name : ℕ) (tag : Tag) → Ordered s.graph → Keeps s →
    is_legal s (record { moment = m; what = Unlink tag edge from to name }) ≡ true → starts s edge from to ≡ true →
    Gained to s.len s.owners s.graph.objects (step s (record { moment = m; what = Unlink tag edge from to name })).owners s.graph.objects
unlink_gained s m edge from to name tag o k l b =
    let facts = unlink_facts s m edge from to name tag l in
    subst (λ (w : Owners). Gained to s.len s.owners s.graph.objects w s.graph.objects) (sym (unlink_started_owners s m edge from to name tag b))
    (gained_moved s.rules s.graph (changed s.graph (TakesEdge (key_of edge from to))) to s.len s.owners facts.0 k.ids o.objects refl facts.1 facts.3
    (nothing_passed s.rules s.graph s.owners (key_of edge from to) facts.4 facts.2))

pub unlink_started_owed : (s : State) (m edge from to name : ℕ) (tag : Tag) → Ordered s.graph → Keeps s →
    is_legal s (record { moment = m; what = Unlink tag edge from to name }) ≡ true → starts s edge from to ≡ true →
    owed (step s (record { moment = m; what = Unlink tag edge from to name })) + 2 ≡ owed s
unlink_started_owed s m edge from to name tag o k l b =
    let facts = unlink_facts s m edge from to name tag l in
    let jobs = unlink_started_jobs s m edge from to name tag b in
    omega (
      arith,
      (unlink_gained s m edge from to name tag o k l b).weight owes,
      unlink_edges s (key_of edge from to) o facts.4,
      ap (sum_by owed_for_job) jobs,
      jobs_started s to (Named name),
      ap (λ (r : List JobRow). sum_by (owed_for_item r) s.items) jobs,
      items_started s to (Named name),
    )

pub unlink_started_step : (s : State) (m edge from to name : ℕ) (tag : Tag) (t : Table) → Ordered s.graph → IsTableOf s t →
    is_legal s (record { moment = m; what = Unlink tag edge from to name }) ≡ true → starts s edge from to ≡ true →
    IsTableOf (step s (record { moment = m; what = Unlink tag edge from to name })) (noted_start t m (Some tag.seat) to (Named name) (t.owed - 2))
unlink_started_step s m edge from to name tag t o h l b =
    start_step s (record { moment = m; what = Unlink tag edge from to name }) t to (Named name) 2 o h
    (unlink_gained s m edge from to name tag o h.keeps l b)
    (ap (map id_of_owner) (unlink_started_owners s m edge from to name tag b) ∙ ids_after s.rules s.graph (changed s.graph (TakesEdge (key_of edge from to))) (Some to) s.len s.owners s.graph.objects)
    (unlink_started_owed s m edge from to name tag o h.keeps l b) (omega arith) (Some tag.seat) refl (unlink_started_jobs s m edge from to name tag b) refl

pub append_none : {A : Type 0} (xs : List A) → xs ++ [] ≡ xs
append_none [] = refl
append_none (x ∷ xs) = ap (λ (l : List _). x ∷ l) (append_none xs)

pub unlink_plain_owners : (s : State) (m edge from to name : ℕ) (tag : Tag) → starts s edge from to ≡ false →
    (step s (record { moment = m; what = Unlink tag edge from to name })).owners ≡
    owners_after s.rules s.graph (changed s.graph (TakesEdge (key_of edge from to))) None s.len s.owners
unlink_plain_owners s m edge from to name tag b =
    ap (λ (v : Bool). owners_after s.rules s.graph (changed s.graph (TakesEdge (key_of edge from to))) (root_of_start (cond {A = Option (ℕ × JobName)} v (Some (to, Named name)) None)) s.len s.owners) b

pub unlink_plain_jobs : (s : State) (m edge from to name : ℕ) (tag : Tag) → starts s edge from to ≡ false →
    jobs_after s m (Unlink tag edge from to name) ≡ s.jobs
unlink_plain_jobs s m edge from to name tag b =
    ap (λ (v : Bool). s.jobs ++ started_job s.len (cond {A = Option (ℕ × JobName)} v (Some (to, Named name)) None)) b ∙ append_none s.jobs

pub unlink_same : (s : State) (m edge from to name : ℕ) (tag : Tag) → Keeps s →
    is_legal s (record { moment = m; what = Unlink tag edge from to name }) ≡ true → starts s edge from to ≡ false →
    Same s.owners s.graph.objects (step s (record { moment = m; what = Unlink tag edge from to name })).owners s.graph.objects
unlink_same s m edge from to name tag k l b =
    let facts = unlink_facts s m edge from to name tag l in
    subst (λ (w : Owners). Same s.owners s.graph.objects w s.graph.objects) (sym (unlink_plain_owners s m edge from to name tag b))
    (unpassed_moved s.rules s.graph (changed s.graph (TakesEdge (key_of edge from to))) s.len s.owners k.ids refl
    (nothing_passed s.rules s.graph s.owners (key_of edge from to) facts.4 facts.2))

pub unlink_plain_owed : (s : State) (m edge from to name : ℕ) (tag : Tag) → Ordered s.graph → Keeps s →
    is_legal s (record { moment = m; what = Unlink tag edge from to name }) ≡ true → starts s edge from to ≡ false →
    owed (step s (record { moment = m; what = Unlink tag edge from to name })) + 1 ≡ owed s
unlink_plain_owed s m edge from to name tag o k l b =
    let facts = unlink_facts s m edge from to name tag l in
    let jobs = unlink_plain_jobs s m edge from to name tag b in
    omega (
      arith,
      (unlink_same s m edge from to name tag k l b).weight owes,
      unlink_edges s (key_of edge from to) o facts.4,
      ap (sum_by owed_for_job) jobs,
      ap (λ (r : List JobRow). sum_by (owed_for_item r) s.items) jobs,
    )

pub unlink_plain_step : (s : State) (m edge from to name : ℕ) (tag : Tag) (t : Table) → Ordered s.graph → IsTableOf s t →
    is_legal s (record { moment = m; what = Unlink tag edge from to name }) ≡ true → starts s edge from to ≡ false →
    IsTableOf (step s (record { moment = m; what = Unlink tag edge from to name })) (noted t m (Some tag.seat) (t.owed - 1))
unlink_plain_step s m edge from to name tag t o h l b =
    let jobs = unlink_plain_jobs s m edge from to name tag b in
    let less = unlink_plain_owed s m edge from to name tag o h.keeps l b in
    same_step s (record { moment = m; what = Unlink tag edge from to name }) t s.graph.objects o h (unlink_same s m edge from to name tag h.keeps l b)
    (ap (map id_of_owner) (unlink_plain_owners s m edge from to name tag b) ∙ ids_after s.rules s.graph (changed s.graph (TakesEdge (key_of edge from to))) None s.len s.owners s.graph.objects)
    o.objects (noted t m (Some tag.seat) (t.owed - 1)) refl refl refl (omega (arith, h.owed, less)) h.items (h.jobs ∙ sym jobs)
    (ap (λ (l : List ℕ). l ++ tag.seat ∷ []) h.seats) (omega (arith, less, h.keeps.within))
    (subst (λ (r : List JobRow). starts_rise 0 (s.len + 1) r ≡ true) (sym jobs) (starts_wider 0 s.len (s.len + 1) s.jobs (omega arith) h.keeps.starts))
    (λ job r. h.keeps.idle job (ap (λ (l : List JobRow). is_restored l job) (sym jobs) ∙ r))

-- restore

pub restore_facts : (s : State) (m job : ℕ) (tag : Tag) → is_legal s (record { moment = m; what = Restore tag job }) ≡ true →
    (row : JobRow) × (job_row s.jobs job ≡ Some row) × (owned s job ≡ 0) × (is_restored s.jobs job ≡ false) ×
    (room (step s (record { moment = m; what = Restore tag job })) ≤ room_limit)
restore_facts s m job tag l =
    let a = (both (is_named_so s job (job_row s.jobs job)) _ (allowed s (record { moment = m; what = Restore tag job }) l)).1 in
    let a1 = none_of_two (no_job s job) _ a in
    let a2 = none_of_two (pending s job) _ a1.1 in
    let a3 = none_of_two (restored_before (job_row s.jobs job)) _ a2.1 in
    let a4 = none_of_two (window_over s m (job_row s.jobs job)) _ a3.1 in
    let a5 = none_of_two (full s m (Restore tag job)) _ a4.1 in
    let r = job_there s job a1.0 in
    (r.0, r.1, none_pending s job a2.0, not_restored (job_row s.jobs job) a3.0, room_left s m (Restore tag job) a5.0)

pub restored_start : (job position : ℕ) (row : JobRow) → (row_restored_at job position row).start ≡ row.start
restored_start job position row = go (nat_eq row.start job)
  where
    go : (b : Bool) → (cond b (record row { restored = Some position }) row).start ≡ row.start
    go true = refl
    go false = refl

restored_purged : (job position : ℕ) (row : JobRow) → (row_restored_at job position row).purged ≡ row.purged
restored_purged job position row = go (nat_eq row.start job)
  where
    go : (b : Bool) → (cond b (record row { restored = Some position }) row).purged ≡ row.purged
    go true = refl
    go false = refl

pub restore_same : (s : State) → Keeps s → Same s.owners s.graph.objects (owners_after s.rules s.graph s.graph None s.len s.owners) s.graph.objects
restore_same s k = same_moved s.rules s.graph s.graph s.len s.owners k.ids refl (all_found s.graph.edges)

-- what a restore of a job owes that was not restored
pub restore_owed_of : (s : State) (m job : ℕ) (tag : Tag) (row : JobRow) → Keeps s → job_row s.jobs job ≡ Some row → is_restored s.jobs job ≡ false →
    owed (step s (record { moment = m; what = Restore tag job })) ≡ owed s + sum_by (weight_of job) s.items
restore_owed_of s m job tag row k found not_yet =
    omega (
      arith,
      (restore_same s k).weight owes,
      owed_jobs-same (row_restored_at job s.len) s.jobs (restored_purged job s.len),
      owed_items-restored s.jobs (map (row_restored_at job s.len) s.jobs) job s.items (λ other. is_restored-restored job s.len other row s.jobs found) not_yet,
    )

pub restore_owed : (s : State) (m job : ℕ) (tag : Tag) → Keeps s → is_legal s (record { moment = m; what = Restore tag job }) ≡ true →
    owed (step s (record { moment = m; what = Restore tag job })) ≡ owed s + sum_by (weight_of job) s.items
restore_owed s m job tag k l =
    let facts = restore_facts s m job tag l in
    restore_owed_of s m job tag facts.0 k facts.1 facts.3

pub restore_step : (s : State) (m job : ℕ) (tag : Tag) (t : Table) → Ordered s.graph → IsTableOf s t →
    is_legal s (record { moment = m; what = Restore tag job }) ≡ true →
    IsTableOf (step s (record { moment = m; what = Restore tag job })) (noted_restore t m (Some tag.seat) job (t.owed + sum_by (weight_of job) t.items))
restore_step s m job tag t o h l =
    let facts = restore_facts s m job tag l in
    let weights : sum_by (weight_of job) t.items ≡ sum_by (weight_of job) s.items = ap (sum_by (weight_of job)) h.items in
    same_step s (record { moment = m; what = Restore tag job }) t s.graph.objects o h (restore_same s h.keeps)
    (ids_after s.rules s.graph s.graph None s.len s.owners s.graph.objects)
    o.objects (noted_restore t m (Some tag.seat) job (t.owed + sum_by (weight_of job) t.items)) refl refl refl
    (omega (arith, h.owed, restore_owed s m job tag h.keeps l, weights)) h.items
    (ap (λ (n : ℕ). changed_first (starts_at job) (row_restored_at job n) t.jobs) h.len ∙ ap (changed_first (starts_at job) (row_restored_at job s.len)) h.jobs
    ∙ changed_is_map (row_restored_at job s.len) job 0 s.len s.jobs (restored_other job s.len) h.keeps.starts)
    (ap (λ (l : List ℕ). l ++ tag.seat ∷ []) h.seats) facts.4
    (starts_map (row_restored_at job s.len) 0 (s.len + 1) s.jobs (restored_start job s.len) (starts_wider 0 s.len (s.len + 1) s.jobs (omega arith) h.keeps.starts))
    (λ other r. idle other facts.2 (h.keeps.idle other) (nat_eq other job) refl (is_restored s.jobs other) refl (sym (is_restored-restored job s.len other facts.0 s.jobs facts.1) ∙ r))
  where
    idle : (other : ℕ) → owned s job ≡ 0 → (is_restored s.jobs other ≡ true → owned s other ≡ 0) → (b : Bool) → nat_eq other job ≡ b →
        (d : Bool) → is_restored s.jobs other ≡ d → (d || b) ≡ true → owned s other ≡ 0
    idle other n f b e true q r = f q
    idle other n f true e false q r = ap (owned s) (eqb_is other job e) ∙ n
    idle other n f false e false q r = absurd (cc r)

-- purge

pub purge_facts : (s : State) (m job : ℕ) → is_legal s (record { moment = m; what = Purge job }) ≡ true →
    (row : JobRow) × (job_row s.jobs job ≡ Some row) × (row.purged ≡ false)
purge_facts s m job l = go (job_row s.jobs job) refl (allowed s (record { moment = m; what = Purge job }) l)
  where
    off : (b : Bool) → not b ≡ true → b ≡ false
    off true h = absurd (cc h)
    off false h = refl

    go : (v : Option JobRow) → job_row s.jobs job ≡ v → may_purge s m v ≡ true → (row : JobRow) × (job_row s.jobs job ≡ Some row) × (row.purged ≡ false)
    go None e h = absurd (cc h)
    go (Some row) e h =
        let a = both (nat_eq (owned s row.start) 0 && not row.purged && nat_eq (left s row.start) 0) (window_passed s m row) h in
        let b = both (nat_eq (owned s row.start) 0 && not row.purged) (nat_eq (left s row.start) 0) a.0 in
        let d = both (nat_eq (owned s row.start) 0) (not row.purged) b.0 in
        (row, e, off row.purged d.1)

purged_start : (job : ℕ) (row : JobRow) → (purged_if job row).start ≡ row.start
purged_start job row = go (nat_eq row.start job)
  where
    go : (b : Bool) → (cond b (record row { purged = true }) row).start ≡ row.start
    go true = refl
    go false = refl

pub purge_owed : (s : State) (m job : ℕ) → Keeps s → is_legal s (record { moment = m; what = Purge job }) ≡ true →
    owed (step s (record { moment = m; what = Purge job })) + 1 ≡ owed s
purge_owed s m job k l =
    let facts = purge_facts s m job l in
    omega (
      arith,
      (restore_same s k).weight owes,
      owed_jobs-purged job 0 s.len facts.0 s.jobs k.starts facts.1 facts.2,
      owed_items-same s.jobs (map (purged_if job) s.jobs) s.items (λ other. is_restored-purged job other s.jobs),
    )

pub purge_step : (s : State) (m job : ℕ) (t : Table) → Ordered s.graph → IsTableOf s t →
    is_legal s (record { moment = m; what = Purge job }) ≡ true →
    IsTableOf (step s (record { moment = m; what = Purge job })) (noted_purge t m job (t.owed - 1))
purge_step s m job t o h l =
    let less = purge_owed s m job h.keeps l in
    same_step s (record { moment = m; what = Purge job }) t s.graph.objects o h (restore_same s h.keeps)
    (ids_after s.rules s.graph s.graph None s.len s.owners s.graph.objects)
    o.objects (noted_purge t m job (t.owed - 1)) refl refl refl
    (omega (arith, h.owed, less)) h.items (ap (changed_first (starts_at job) (purged_if job)) h.jobs ∙ changed_is_map (purged_if job) job 0 s.len s.jobs (purged_other job) h.keeps.starts) h.seats (omega (arith, less, h.keeps.within))
    (starts_map (purged_if job) 0 (s.len + 1) s.jobs (purged_start job) (starts_wider 0 s.len (s.len + 1) s.jobs (omega arith) h.keeps.starts))
    (λ other r. h.keeps.idle other (sym (is_restored-purged job other s.jobs) ∙ r))
