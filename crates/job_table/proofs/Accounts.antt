-- What owners weigh: the owned objects of a job, counted over the graph and over the pairs of a table.
use Rattle.std.proofs.Common.{◌≡◌, ℕ, ◌+◌, ◌≤◌, true, cond, ◌&&◌, List, [], ◌∷◌, ◌++◌, map, Option, Some, None, is_some, refl, sym, ◌∙◌, arith}
use Rattle.std.specs.Prelude.{nat_eq, nat_le, is_none, count_by}
use Rattle.std.proofs.lemmas.Bool.Decides.{nat_tests}
use Rattle.std.proofs.lemmas.List.Sums.{sum_by_push}
use Rattle.delf_model.specs.declared.rows.ObjectRow.{ObjectRow}
use Rattle.delf_model.specs.declared.entry.Entry.{Entry}
use Rattle.delf_model.specs.declared.call.Refusal.{Refusal}
use Rattle.delf_model.specs.Graph.{object_at, objects_rise}
use Rattle.delf_model.specs.State.{State, Owners, owner, owned, is_job, is_pair_of, is_restored}
use Rattle.delf_model.specs.Step.{step, graph_after, items_after, jobs_after, seats_with, tag_of}
use Rattle.delf_model.specs.Owners.{start_of, root_of_start}
use Rattle.std.specs.Option.{option_or}
use Rattle.delf_model.specs.Room.{room, owed, room_limit, greatest_moment}
use Rattle.delf_model.specs.Legal.{is_legal, is_allowed, is_tag, is_numbered}
use Rattle.delf_model.specs.Reply.{absent, condemned, condemned_by}
use Rattle.job_table.specs.Table.{Table, IsTableOf, Keeps, starts_rise, id_of_owner, id_of, owner_among, owned_among, is_of_owner}
use Rattle.job_table.proofs.Lookups.{both}
use Rattle.job_table.proofs.Passing.{owned_is, one_if}
use Rattle.job_table.proofs.Steps.{ids_after}
use Rattle.job_table.proofs.Totals.{total}
use Rattle.job_table.proofs.Moves.{Same, Added, Gained, Dropped}

-- what an owner weighs: in the count of a job, and in the room rule

abbrev pub counts_for : ℕ → Option ℕ → ℕ
counts_for job o = one_if (is_job job o)

abbrev pub owes : Option ℕ → ℕ
owes o = cond (is_some o) 1 3

pub is_job_self : (job : ℕ) → is_job job (Some job) ≡ true
is_job_self job = grind (arith, nat_tests)

-- the owned objects of a job, counted over the graph
pub owned_total : (job : ℕ) (s : State) → Keeps s → objects_rise s.graph.objects ≡ true →
    owned s job ≡ total (counts_for job) s.owners s.graph.objects
owned_total job s k o = owned_is job s.owners s.graph.objects k.ids o

-- the owned pairs of a table after a move

pub pairs_push : (id job other : ℕ) (pairs : List (ℕ × ℕ)) →
    owned_among (pairs ++ (id, job) ∷ []) other ≡ owned_among pairs other + one_if (nat_eq job other)
pairs_push id job other pairs = sum_by_push (λ (p : ℕ × ℕ). one_if (is_of_owner other p)) pairs (id, job)

-- what legality gives

pub allowed : (s : State) (e : Entry) → is_legal s e ≡ true → is_allowed s e.moment e.what ≡ true
allowed s e h =
    (both (nat_le s.moment e.moment && nat_le e.moment greatest_moment && is_tag s (tag_of e.what) && is_numbered s.rules e.what)
    (is_allowed s e.moment e.what) h).1

pub none_of_two : (x r : Option Refusal) → is_none (option_or x r) ≡ true → (x ≡ None) × (is_none r ≡ true)
none_of_two None r h = (refl, h)
none_of_two (Some x) r h = absurd (cc h)

pub there : (s : State) (id : ℕ) → absent s id ≡ None → (row : ObjectRow) × (object_at s.graph id ≡ Some row)
there s id h = go (object_at s.graph id) refl h
  where
    go : (o : Option ObjectRow) → object_at s.graph id ≡ o → cond (is_some o) None (Some (Refusal.Absent id)) ≡ None → (row : ObjectRow) × (object_at s.graph id ≡ Some row)
    go None e n = absurd (cc n)
    go (Some row) e n = (row, e)

pub free : (s : State) (id : ℕ) → condemned s id ≡ None → owner s id ≡ None
free s id h = go (owner s id) h
  where
    go : (o : Option ℕ) → condemned_by id o ≡ None → o ≡ None
    go None n = refl
    go (Some job) n = absurd (cc n)

-- the table of the next state, part by part
pub assembled : (s : State) (e : Entry) (new : Table) → Keeps s →
    new.len ≡ s.len + 1 → new.moment ≡ e.moment → new.owed ≡ owed (step s e) →
    ((id : ℕ) → owner_among new.owners id ≡ owner (step s e) id) →
    ((job : ℕ) → owned_among new.owners job ≡ owned (step s e) job) →
    new.items ≡ items_after s e.what → new.jobs ≡ jobs_after s e.moment e.what → new.seats ≡ seats_with s.seats (tag_of e.what) →
    room (step s e) ≤ room_limit → starts_rise 0 (s.len + 1) (jobs_after s e.moment e.what) ≡ true →
    ((job : ℕ) → is_restored (jobs_after s e.moment e.what) job ≡ true → owned (step s e) job ≡ 0) →
    IsTableOf (step s e) new
assembled s e new k len moment owes owners owned items jobs seats within starts idle = record {
  len = len;
  moment = moment;
  owed = owes;
  owners = owners;
  owned = owned;
  items = items;
  jobs = jobs;
  seats = seats;
  keeps = record {
    within = within;
    starts = starts;
    idle = idle;
    ids = ids_after s.rules s.graph (graph_after s e.moment e.what) (root_of_start (start_of s e.what)) s.len s.owners (graph_after s e.moment e.what).objects;
  };
}

-- counts of owned objects after a move, in state and table

module _ (before after : Owners) (rows next : List ObjectRow) (ids : map id_of_owner before ≡ map id_of rows) (ids' : map id_of_owner after ≡ map id_of next)
    (rise : objects_rise rows ≡ true) (rise' : objects_rise next ≡ true) where
  pub counts_same : Same before rows after next → (job : ℕ) → count_by (is_pair_of job) after ≡ count_by (is_pair_of job) before
  counts_same m job = owned_is job after next ids' rise' ∙ m.weight (counts_for job) ∙ sym (owned_is job before rows ids rise)

  pub counts_added : Added before rows after next → (job : ℕ) → count_by (is_pair_of job) after ≡ count_by (is_pair_of job) before
  counts_added m job = omega (arith, owned_is job after next ids' rise', m.weight (counts_for job), owned_is job before rows ids rise)

  pub counts_gained : (id j : ℕ) → Gained id j before rows after next → (job : ℕ) →
      count_by (is_pair_of job) after ≡ count_by (is_pair_of job) before + one_if (nat_eq j job)
  counts_gained id j m job = omega (arith, owned_is job after next ids' rise', m.weight (counts_for job), owned_is job before rows ids rise)

  pub counts_dropped : (id j : ℕ) → Dropped id j before rows after next → (job : ℕ) →
      count_by (is_pair_of job) after + one_if (nat_eq j job) ≡ count_by (is_pair_of job) before
  counts_dropped id j m job = omega (arith, owned_is job after next ids' rise', m.weight (counts_for job), owned_is job before rows ids rise)
