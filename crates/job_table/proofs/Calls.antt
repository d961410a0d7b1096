-- The entries of calls that start no job, and what refusals say where they do not hold.
use Rattle.std.proofs.Common.{◌≡◌, ℕ, ◌+◌, ◌-◌, ◌<◌, ◌≤◌, Bool, true, false, cond, List, [], ◌∷◌, ◌++◌, map, Option, Some, None, is_some, refl, sym, ◌∙◌, ap, subst, arith}
use Rattle.std.specs.Prelude.{nat_eq, nat_lt, sum_by, slice_get}
use Rattle.std.proofs.lemmas.Bool.Decides.{nat_tests}
use Rattle.std.proofs.lemmas.List.Sums.{sum_by_push}
use Rattle.delf_model.specs.declared.rows.ObjectRow.{ObjectRow}
use Rattle.delf_model.specs.declared.rows.EdgeKey.{EdgeKey}
use Rattle.delf_model.specs.declared.rows.EdgeRow.{EdgeRow}
use Rattle.delf_model.specs.declared.entry.Entry.{Entry}
use Rattle.delf_model.specs.declared.entry.Tag.{Tag}
use Rattle.delf_model.specs.declared.entry.What.{What}
use Rattle.delf_model.specs.declared.entry.What.TheVariants.{Create, Update, Link}
use Rattle.delf_model.specs.declared.ids.JobName.{JobName}
use Rattle.delf_model.specs.declared.call.Refusal.{Refusal}
use Rattle.delf_model.specs.Graph.{changed, PutsEdge, PutsObject, RewritesObject, object_at, edge_at, edge_stands, put_object, rewritten}
use Rattle.delf_model.specs.State.{State, JobRow, owned, is_restored, is_restored_row, job_row}
use Rattle.delf_model.specs.Owners.{owners_after, key_of}
use Rattle.delf_model.specs.Step.{step, new_job, jobs_after, new_object, new_edge}
use Rattle.delf_model.specs.Room.{room, owed, room_limit, owed_for_edge, owed_for_job, owed_for_item}
use Rattle.delf_model.specs.Legal.{is_legal}
use Rattle.delf_model.specs.Reply.{too_long, absent, condemned, name_taken, name_taken_by, edge_taken, edge_taken_by, full, wrong_source, wrong_target, no_edge, no_job, pending, restored_before, restored_by}
use Rattle.job_table.specs.Table.{Table, IsTableOf, Keeps, starts_rise, owner_among, owned_among, id_of_owner, id_of}
use Rattle.job_table.specs.Notes.{noted, noted_start, with_seat}
use Rattle.job_table.proofs.Lookups.{found_after_put}
use Rattle.job_table.proofs.Sums.{sum_by-put_edge}
use Rattle.job_table.proofs.Passing.{one_if}
use Rattle.job_table.proofs.Steps.{Ordered, ids_after, eqb_is}
use Rattle.job_table.proofs.Totals.{objects_rise_put, objects_rise_rewritten}
use Rattle.job_table.proofs.Moves.{Same, Gained, same_moved, added_moved, rewritten_moved, same_pairs, added_pairs, gained_pairs}
use Rattle.job_table.proofs.Rows.{is_restored-new, starts_push, starts_wider, owed_items-same}
use Rattle.job_table.proofs.Accounts.{allowed, none_of_two, assembled, counts_same, counts_added, counts_gained, pairs_push, owes}
use Rattle.job_table.proofs.Starts.{idle_gained}

-- what refusals say where they do not hold

pub room_left : (s : State) (m : ℕ) (what : What) → full s m what ≡ None → room (step s (record { moment = m; what = what })) ≤ room_limit
room_left s m what h = go (nat_lt room_limit (room (step s (record { moment = m; what = what })))) refl h
  where
    go : (b : Bool) → nat_lt room_limit (room (step s (record { moment = m; what = what }))) ≡ b → cond b (Some (Refusal.Full s.len (owed s))) None ≡ None →
        room (step s (record { moment = m; what = what })) ≤ room_limit
    go true e n = absurd (cc n)
    go false e n = grind (arith, nat_tests, e)

pub name_free : (s : State) (id : ℕ) → name_taken s id ≡ None → object_at s.graph id ≡ None
name_free s id h = go (object_at s.graph id) h
  where
    go : (o : Option ObjectRow) → name_taken_by o ≡ None → o ≡ None
    go None n = refl
    go (Some row) n = absurd (cc n)

pub edge_free : (s : State) (key : EdgeKey) → edge_taken s key ≡ None → edge_at s.graph key ≡ None
edge_free s key h = go (edge_at s.graph key) h
  where
    go : (o : Option EdgeRow) → edge_taken_by o ≡ None → o ≡ None
    go None n = refl
    go (Some row) n = absurd (cc n)

pub edge_there : (s : State) (key : EdgeKey) → no_edge s key ≡ None → edge_stands s.graph key ≡ true
edge_there s key h = go (edge_stands s.graph key) h
  where
    go : (b : Bool) → cond b None (Some Refusal.NoEdge) ≡ None → b ≡ true
    go true n = refl
    go false n = absurd (cc n)

pub none_pending : (s : State) (job : ℕ) → pending s job ≡ None → owned s job ≡ 0
none_pending s job h = go (nat_eq (owned s job) 0) refl h
  where
    go : (b : Bool) → nat_eq (owned s job) 0 ≡ b → cond b None (Some (Refusal.Pending (owned s job))) ≡ None → owned s job ≡ 0
    go true e n = eqb_is (owned s job) 0 e
    go false e n = absurd (cc n)

pub job_there : (s : State) (job : ℕ) → no_job s job ≡ None → (row : JobRow) × (job_row s.jobs job ≡ Some row)
job_there s job h = go (job_row s.jobs job) refl h
  where
    go : (o : Option JobRow) → job_row s.jobs job ≡ o → cond (is_some o) None (Some Refusal.NoJob) ≡ None → (row : JobRow) × (job_row s.jobs job ≡ Some row)
    go None e n = absurd (cc n)
    go (Some row) e n = (row, e)

pub not_restored : (o : Option JobRow) → restored_before o ≡ None → is_restored_row o ≡ false
not_restored None n = refl
not_restored (Some row) n = go row.restored n
  where
    go : (o : Option ℕ) → restored_by o ≡ None → is_some o ≡ false
    go None h = refl
    go (Some p) h = absurd (cc h)

-- create

pub create_facts : (s : State) (m kind id size : ℕ) (tag : Tag) → is_legal s (record { moment = m; what = Create tag kind id size }) ≡ true →
    (object_at s.graph id ≡ None) × (room (step s (record { moment = m; what = Create tag kind id size })) ≤ room_limit)
create_facts s m kind id size tag l =
    let a = allowed s (record { moment = m; what = Create tag kind id size }) l in
    let p = none_of_two (too_long size) _ a in
    let q = none_of_two (name_taken s id) _ p.1 in
    let r = none_of_two (full s m (Create tag kind id size)) _ q.1 in
    (name_free s id q.0, room_left s m (Create tag kind id size) r.0)

pub create_owed : (s : State) (m kind id size : ℕ) (tag : Tag) → Keeps s → object_at s.graph id ≡ None →
    owed (step s (record { moment = m; what = Create tag kind id size })) ≡ owed s + 3
create_owed s m kind id size tag k n =
    omega (arith, (added_moved s.rules s.graph (new_object s m kind id size) s.len s.owners k.ids n).weight owes)

pub create_step : (s : State) (m kind id size : ℕ) (tag : Tag) (t : Table) → Ordered s.graph → IsTableOf s t →
    is_legal s (record { moment = m; what = Create tag kind id size }) ≡ true →
    IsTableOf (step s (record { moment = m; what = Create tag kind id size })) (noted t m (Some tag.seat) (t.owed + 3))
create_step s m kind id size tag t o h l =
    let facts = create_facts s m kind id size tag l in
    let row = new_object s m kind id size in
    let next = step s (record { moment = m; what = Create tag kind id size }) in
    let g = added_moved s.rules s.graph row s.len s.owners h.keeps.ids facts.0 in
    let counts = counts_added s.owners next.owners s.graph.objects (put_object row s.graph.objects) h.keeps.ids
    (ids_after s.rules s.graph (changed s.graph (PutsObject row)) None s.len s.owners (put_object row s.graph.objects))
    o.objects (objects_rise_put row s.graph.objects o.objects) g in
    assembled s (record { moment = m; what = Create tag kind id size }) (noted t m (Some tag.seat) (t.owed + 3)) h.keeps
    (ap (λ (n : ℕ). n + 1) h.len) refl (omega (arith, h.owed, create_owed s m kind id size tag h.keeps facts.0))
    (added_pairs s.owners next.owners s.graph.objects (put_object row s.graph.objects) t.owners g h.owners)
    (λ job. h.owned job ∙ sym (counts job))
    h.items h.jobs (ap (λ (l : List ℕ). l ++ tag.seat ∷ []) h.seats)
    facts.1 (starts_wider 0 s.len (s.len + 1) s.jobs (omega arith) h.keeps.starts)
    (λ job r. counts job ∙ h.keeps.idle job r)

-- update

pub update_facts : (s : State) (m id size : ℕ) (tag : Tag) → is_legal s (record { moment = m; what = Update tag id size }) ≡ true →
    room (step s (record { moment = m; what = Update tag id size })) ≤ room_limit
update_facts s m id size tag l =
    let a = allowed s (record { moment = m; what = Update tag id size }) l in
    let p = none_of_two (too_long size) _ a in
    let q = none_of_two (absent s id) _ p.1 in
    let r = none_of_two (condemned s id) _ q.1 in
    let f = none_of_two (full s m (Update tag id size)) _ r.1 in
    room_left s m (Update tag id size) f.0

pub update_owed : (s : State) (m id size : ℕ) (tag : Tag) → Keeps s →
    owed (step s (record { moment = m; what = Update tag id size })) ≡ owed s
update_owed s m id size tag k =
    omega (arith, (rewritten_moved s.rules s.graph id s.len size s.len s.owners k.ids).weight owes)

pub update_step : (s : State) (m id size : ℕ) (tag : Tag) (t : Table) → Ordered s.graph → IsTableOf s t →
    is_legal s (record { moment = m; what = Update tag id size }) ≡ true →
    IsTableOf (step s (record { moment = m; what = Update tag id size })) (noted t m (Some tag.seat) t.owed)
update_step s m id size tag t o h l =
    let next = step s (record { moment = m; what = Update tag id size }) in
    let rows = map (rewritten id s.len size) s.graph.objects in
    let g = rewritten_moved s.rules s.graph id s.len size s.len s.owners h.keeps.ids in
    let counts = counts_same s.owners next.owners s.graph.objects rows h.keeps.ids
    (ids_after s.rules s.graph (changed s.graph (RewritesObject id s.len size)) None s.len s.owners rows)
    o.objects (objects_rise_rewritten id s.len size s.graph.objects o.objects) g in
    assembled s (record { moment = m; what = Update tag id size }) (noted t m (Some tag.seat) t.owed) h.keeps
    (ap (λ (n : ℕ). n + 1) h.len) refl (h.owed ∙ sym (update_owed s m id size tag h.keeps))
    (same_pairs s.owners next.owners s.graph.objects rows t.owners g h.owners)
    (λ job. h.owned job ∙ sym (counts job))
    h.items h.jobs (ap (λ (l : List ℕ). l ++ tag.seat ∷ []) h.seats)
    (update_facts s m id size tag l) (starts_wider 0 s.len (s.len + 1) s.jobs (omega arith) h.keeps.starts)
    (λ job r. counts job ∙ h.keeps.idle job r)

-- link

pub link_facts : (s : State) (m edge from to size : ℕ) (tag : Tag) → is_legal s (record { moment = m; what = Link tag edge from to size }) ≡ true →
    (edge_at s.graph (key_of edge from to) ≡ None) × (room (step s (record { moment = m; what = Link tag edge from to size })) ≤ room_limit)
link_facts s m edge from to size tag l =
    let a = allowed s (record { moment = m; what = Link tag edge from to size }) l in
    let a1 = none_of_two (too_long size) _ a in
    let a2 = none_of_two (absent s from) _ a1.1 in
    let a3 = none_of_two (absent s to) _ a2.1 in
    let a4 = none_of_two (condemned s from) _ a3.1 in
    let a5 = none_of_two (condemned s to) _ a4.1 in
    let a6 = none_of_two (wrong_source s from (slice_get s.rules.edges edge)) _ a5.1 in
    let a7 = none_of_two (wrong_target s to (slice_get s.rules.edges edge)) _ a6.1 in
    let a8 = none_of_two (edge_taken s (key_of edge from to)) _ a7.1 in
    let a9 = none_of_two (full s m (Link tag edge from to size)) _ a8.1 in
    (edge_free s (key_of edge from to) a8.0, room_left s m (Link tag edge from to size) a9.0)

pub link_same : (s : State) (edge from to size : ℕ) → Keeps s →
    Same s.owners s.graph.objects (owners_after s.rules s.graph (changed s.graph (PutsEdge (new_edge s edge from to size))) None s.len s.owners) s.graph.objects
link_same s edge from to size k =
    same_moved s.rules s.graph (changed s.graph (PutsEdge (new_edge s edge from to size))) s.len s.owners k.ids refl
    (found_after_put (new_edge s edge from to size) s.graph.edges)

pub link_owed : (s : State) (m edge from to size : ℕ) (tag : Tag) → Keeps s → edge_at s.graph (key_of edge from to) ≡ None →
    owed (step s (record { moment = m; what = Link tag edge from to size })) ≡ owed s + 1
link_owed s m edge from to size tag k n =
    omega (arith, (link_same s edge from to size k).weight owes, sum_by-put_edge owed_for_edge (new_edge s edge from to size) s.graph.edges n)

pub link_step : (s : State) (m edge from to size : ℕ) (tag : Tag) (t : Table) → Ordered s.graph → IsTableOf s t →
    is_legal s (record { moment = m; what = Link tag edge from to size }) ≡ true →
    IsTableOf (step s (record { moment = m; what = Link tag edge from to size })) (noted t m (Some tag.seat) (t.owed + 1))
link_step s m edge from to size tag t o h l =
    let facts = link_facts s m edge from to size tag l in
    let next = step s (record { moment = m; what = Link tag edge from to size }) in
    let g = link_same s edge from to size h.keeps in
    let counts = counts_same s.owners next.owners s.graph.objects s.graph.objects h.keeps.ids
    (ids_after s.rules s.graph (changed s.graph (PutsEdge (new_edge s edge from to size))) None s.len s.owners s.graph.objects)
    o.objects o.objects g in
    assembled s (record { moment = m; what = Link tag edge from to size }) (noted t m (Some tag.seat) (t.owed + 1)) h.keeps
    (ap (λ (n : ℕ). n + 1) h.len) refl (omega (arith, h.owed, link_owed s m edge from to size tag h.keeps facts.0))
    (same_pairs s.owners next.owners s.graph.objects s.graph.objects t.owners g h.owners)
    (λ job. h.owned job ∙ sym (counts job))
    h.items h.jobs (ap (λ (l : List ℕ). l ++ tag.seat ∷ []) h.seats)
    facts.1 (starts_wider 0 s.len (s.len + 1) s.jobs (omega arith) h.keeps.starts)
    (λ job r. counts job ∙ h.keeps.idle job r)

-- an entry over the same objects that starts a job at an object without owner

module _ (s : State) (e : Entry) (t : Table) (root : ℕ) (name : JobName) (less : ℕ) (o : Ordered s.graph) (h : IsTableOf s t)
    (g : Gained root s.len s.owners s.graph.objects (step s e).owners s.graph.objects)
    (ids : map id_of_owner (step s e).owners ≡ map id_of s.graph.objects)
    (owes : owed (step s e) + less ≡ owed s) (some : 0 < less) where
  pub start_counts : (job : ℕ) → owned (step s e) job ≡ owned s job + one_if (nat_eq s.len job)
  start_counts = counts_gained s.owners (step s e).owners s.graph.objects s.graph.objects h.keeps.ids ids o.objects o.objects root s.len g

  pub start_step : (seat : Option ℕ) → (step s e).items ≡ s.items → jobs_after s e.moment e.what ≡ s.jobs ++ new_job s.len root name ∷ [] →
      (step s e).seats ≡ with_seat s.seats seat → IsTableOf (step s e) (noted_start t e.moment seat root name (t.owed - less))
  start_step seat items jobs seats =
      assembled s e (noted_start t e.moment seat root name (t.owed - less)) h.keeps
      (ap (λ (n : ℕ). n + 1) h.len) refl (omega (arith, h.owed, owes))
      (λ other. ap (λ (n : ℕ). owner_among (t.owners ++ (root, n) ∷ []) other) h.len
      ∙ gained_pairs root s.len s.owners (step s e).owners s.graph.objects s.graph.objects t.owners g h.owners other)
      (λ job. ap (λ (n : ℕ). owned_among (t.owners ++ (root, n) ∷ []) job) h.len
      ∙ pairs_push root s.len job t.owners ∙ omega (arith, h.owned job, start_counts job))
      (h.items ∙ sym items)
      (ap (λ (n : ℕ). t.jobs ++ new_job n root name ∷ []) h.len ∙ ap (λ (l : List JobRow). l ++ new_job s.len root name ∷ []) h.jobs ∙ sym jobs)
      (ap (λ (l : List ℕ). with_seat l seat) h.seats ∙ sym seats)
      (omega (arith, owes, h.keeps.within, some))
      (subst (λ (l : List JobRow). starts_rise 0 (s.len + 1) l ≡ true) (sym jobs) (starts_push 0 s.len root name s.jobs (omega arith) h.keeps.starts))
      (λ job r. idle_gained s root job name (owned (step s e)) h.keeps start_counts (ap (λ (l : List JobRow). is_restored l job) (sym jobs) ∙ r))

pub jobs_started : (s : State) (root : ℕ) (name : JobName) →
    sum_by owed_for_job (s.jobs ++ new_job s.len root name ∷ []) ≡ sum_by owed_for_job s.jobs + 1
jobs_started s root name = sum_by_push owed_for_job s.jobs (new_job s.len root name)

pub items_started : (s : State) (root : ℕ) (name : JobName) →
    sum_by (owed_for_item (s.jobs ++ new_job s.len root name ∷ [])) s.items ≡ sum_by (owed_for_item s.jobs) s.items
items_started s root name = owed_items-same s.jobs (s.jobs ++ new_job s.len root name ∷ []) s.items (λ j. is_restored-new s.len root name j s.jobs)
