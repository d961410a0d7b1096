-- What a legal put says of its item, and the state after it.
use Rattle.std.proofs.Common.{◌≡◌, ℕ, ◌+◌, ◌-◌, ◌≤◌, Bool, true, cond, ◌&&◌, List, Option, Some, None, refl, sym, ◌∙◌, ap, subst, arith}
use Rattle.std.specs.Prelude.{nat_eq, sum_by, count_by, slice_get}
use Rattle.delf_model.specs.declared.rows.ObjectRow.{ObjectRow}
use Rattle.delf_model.specs.declared.rows.EdgeRow.{EdgeRow}
use Rattle.delf_model.specs.declared.rows.Item.{Item}
use Rattle.delf_model.specs.declared.rows.Item.TheVariants as item
use Rattle.delf_model.specs.declared.call.Cause.{Cause}
use Rattle.delf_model.specs.declared.entry.What.TheVariants.{Put}
use Rattle.delf_model.specs.Graph.{changed, Change, Same as Unchanged, PutsObject, PutsEdge, object_at, edge_at, objects_rise, put_object}
use Rattle.delf_model.specs.State.{State, Logged, Handled, is_open, job_of, is_pair_of}
use Rattle.delf_model.specs.Owners.{owners_after}
use Rattle.delf_model.specs.Step.{step, put_unless, put_change, outcome, handled_at}
use Rattle.delf_model.specs.Puts.{judged, taken, end_cause, key_taken}
use Rattle.std.specs.Option.{option_or}
use Rattle.delf_model.specs.Room.{owed, room_limit, owed_for_edge, owed_for_item}
use Rattle.delf_model.specs.Legal.{is_legal, may_put, ends_handled}
use Rattle.job_table.specs.Table.{Table, IsTableOf}
use Rattle.job_table.specs.Notes.{noted_put, item_weight, put_weight}
use Rattle.job_table.proofs.Lookups.{both, all_found, found_after_put}
use Rattle.job_table.proofs.Sums.{sum_by-put_edge}
use Rattle.job_table.proofs.Steps.{Ordered, ids_after}
use Rattle.job_table.proofs.Totals.{objects_rise_put}
use Rattle.job_table.proofs.Moves.{Same, Added, same_moved, added_moved, same_pairs, added_pairs}
use Rattle.job_table.proofs.Rows.{starts_wider, owed_items-handled}
use Rattle.job_table.proofs.Accounts.{allowed, counts_same, counts_added, owes}

-- what a legal put says of its item
pub record PutFacts (s : State) (job i : ℕ) : Type 0 where
  pub logged : Logged
  pub item_is : slice_get s.items i ≡ Some logged
  pub unhandled : is_open s.jobs logged ≡ true

pub put_facts : (s : State) (m job i : ℕ) → is_legal s (record { moment = m; what = Put job i }) ≡ true → PutFacts s job i
put_facts s m job i l = go (slice_get s.items i) refl (allowed s (record { moment = m; what = Put job i }) l)
  where
    go : (v : Option Logged) → slice_get s.items i ≡ v → may_put s job v ≡ true → PutFacts s job i
    go None e h = absurd (cc h)
    go (Some logged) e h =
        let a = both (nat_eq (job_of logged.item) job && is_open s.jobs logged) (ends_handled s.items logged.item) h in
        let b = both (nat_eq (job_of logged.item) job) (is_open s.jobs logged) a.0 in
        record { logged = logged; item_is = e; unhandled = b.1 }

-- the state after a put, by its change and outcome
abbrev pub put_state : State → ℕ → ℕ → Change → Handled → State
put_state s m i change how = record {
  rules = s.rules;
  len = s.len + 1;
  moment = m;
  graph = changed s.graph change;
  owners = owners_after s.rules s.graph (changed s.graph change) None s.len s.owners;
  items = handled_at s.items i how;
  jobs = s.jobs;
  seats = s.seats;
}

open_weight : (s : State) (logged : Logged) → is_open s.jobs logged ≡ true → owed_for_item s.jobs logged ≡ item_weight logged.item
open_weight s logged h = ap (λ (b : Bool). cond b (item_weight logged.item) 0) h

pub items_put : (s : State) (job i : ℕ) (f : PutFacts s job i) (how : Handled) →
    sum_by (owed_for_item s.jobs) (handled_at s.items i how) + item_weight f.logged.item ≡ sum_by (owed_for_item s.jobs) s.items
items_put s job i f how =
    omega (arith, owed_items-handled s.jobs s.items i how f.logged f.item_is, open_weight s f.logged f.unhandled)

-- where owners stay with their objects
put_same : (s : State) (m i : ℕ) (t : Table) (change : Change) (how : Handled) (owing : ℕ) → Ordered s.graph → IsTableOf s t →
    Same s.owners s.graph.objects (put_state s m i change how).owners (changed s.graph change).objects →
    objects_rise (changed s.graph change).objects ≡ true → owing ≡ owed (put_state s m i change how) → owing + 1 ≤ owed s →
    IsTableOf (put_state s m i change how) (noted_put t m i how owing)
put_same s m i t change how owing o h g rise e less = record {
  len = ap (λ (n : ℕ). n + 1) h.len;
  moment = refl;
  owed = e;
  owners = same_pairs s.owners (put_state s m i change how).owners s.graph.objects (changed s.graph change).objects t.owners g h.owners;
  owned = λ job. h.owned job ∙ sym (counts job);
  items = ap (λ (l : List Logged). handled_at l i how) h.items;
  jobs = h.jobs;
  seats = h.seats;
  keeps = record {
    within = omega (arith, e, less, h.keeps.within);
    starts = starts_wider 0 s.len (s.len + 1) s.jobs (omega arith) h.keeps.starts;
    idle = λ job r. counts job ∙ h.keeps.idle job r;
    ids = ids_after s.rules s.graph (changed s.graph change) None s.len s.owners (changed s.graph change).objects;
  };
}
  where
    counts : (job : ℕ) → count_by (is_pair_of job) (put_state s m i change how).owners ≡ count_by (is_pair_of job) s.owners
    counts = counts_same s.owners (put_state s m i change how).owners s.graph.objects (changed s.graph change).objects h.keeps.ids
        (ids_after s.rules s.graph (changed s.graph change) None s.len s.owners (changed s.graph change).objects) o.objects rise g

put_added : (s : State) (m i : ℕ) (t : Table) (change : Change) (how : Handled) (owing : ℕ) → Ordered s.graph → IsTableOf s t →
    Added s.owners s.graph.objects (put_state s m i change how).owners (changed s.graph change).objects →
    objects_rise (changed s.graph change).objects ≡ true → owing ≡ owed (put_state s m i change how) → owing + 1 ≤ owed s →
    IsTableOf (put_state s m i change how) (noted_put t m i how owing)
put_added s m i t change how owing o h g rise e less = record {
  len = ap (λ (n : ℕ). n + 1) h.len;
  moment = refl;
  owed = e;
  owners = added_pairs s.owners (put_state s m i change how).owners s.graph.objects (changed s.graph change).objects t.owners g h.owners;
  owned = λ job. h.owned job ∙ sym (counts job);
  items = ap (λ (l : List Logged). handled_at l i how) h.items;
  jobs = h.jobs;
  seats = h.seats;
  keeps = record {
    within = omega (arith, e, less, h.keeps.within);
    starts = starts_wider 0 s.len (s.len + 1) s.jobs (omega arith) h.keeps.starts;
    idle = λ job r. counts job ∙ h.keeps.idle job r;
    ids = ids_after s.rules s.graph (changed s.graph change) None s.len s.owners (changed s.graph change).objects;
  };
}
  where
    counts : (job : ℕ) → count_by (is_pair_of job) (put_state s m i change how).owners ≡ count_by (is_pair_of job) s.owners
    counts = counts_added s.owners (put_state s m i change how).owners s.graph.objects (changed s.graph change).objects h.keeps.ids
        (ids_after s.rules s.graph (changed s.graph change) None s.len s.owners (changed s.graph change).objects) o.objects rise g

-- what a judgement of none says
pub object_free : (s : State) (job : ℕ) (row : ObjectRow) → judged s (item.Object job row) ≡ None → object_at s.graph row.id ≡ None
object_free s job row h = go (object_at s.graph row.id) h
  where
    go : (o : Option ObjectRow) → taken o ≡ None → o ≡ None
    go None n = refl
    go (Some x) n = absurd (cc n)

two_none : (x r : Option Cause) → option_or x r ≡ None → (x ≡ None) × (r ≡ None)
two_none None r h = (refl, h)
two_none (Some x) r h = absurd (cc h)

pub edge_key_free : (s : State) (job : ℕ) (row : EdgeRow) (a b : ℕ) → judged s (item.Edge job row a b) ≡ None → edge_at s.graph row.key ≡ None
edge_key_free s job row a b h =
    go (edge_at s.graph row.key)
    (two_none (end_cause s row.key.to b) (key_taken (edge_at s.graph row.key))
    (two_none (end_cause s row.key.from a) (option_or (end_cause s row.key.to b) (key_taken (edge_at s.graph row.key))) h).1).1
  where
    go : (o : Option EdgeRow) → key_taken o ≡ None → o ≡ None
    go None n = refl
    go (Some x) n = absurd (cc n)

weight_pos : (it : Item) → 1 ≤ item_weight it
weight_pos (item.Object job row) = omega arith
weight_pos (item.Edge job row a b) = omega arith

-- a put, by its item and its judgement
pub put_case : (s : State) (m job i : ℕ) (t : Table) → Ordered s.graph → IsTableOf s t → (f : PutFacts s job i) →
    (it : Item) → f.logged.item ≡ it → (cause : Option Cause) → judged s it ≡ cause →
    IsTableOf (put_state s m i (put_unless cause it) (record { put = s.len; cause = cause }))
    (noted_put t m i (record { put = t.len; cause = cause }) (t.owed + put_weight cause it - item_weight it))
put_case s m job i t o h f it e (Some cause) j =
    subst (λ (n : ℕ). IsTableOf (put_state s m i Unchanged (record { put = s.len; cause = Some cause })) (noted_put t m i (record { put = n; cause = Some cause }) (t.owed + 0 - item_weight it))) (sym h.len)
    (put_same s m i t Unchanged (record { put = s.len; cause = Some cause }) (t.owed + 0 - item_weight it) o h g o.objects
    (omega (arith, h.owed, g.weight owes, sums, same)) (omega (arith, h.owed, g.weight owes, sums, same, weight_pos it)))
  where
    g : Same s.owners s.graph.objects (owners_after s.rules s.graph s.graph None s.len s.owners) s.graph.objects
    g = same_moved s.rules s.graph s.graph s.len s.owners h.keeps.ids refl (all_found s.graph.edges)

    same : item_weight f.logged.item ≡ item_weight it
    same = ap item_weight e

    sums : sum_by (owed_for_item s.jobs) (handled_at s.items i (record { put = s.len; cause = Some cause })) + item_weight f.logged.item ≡ sum_by (owed_for_item s.jobs) s.items
    sums = items_put s job i f (record { put = s.len; cause = Some cause })
put_case s m job i t o h f (item.Object of row) e None j =
    subst (λ (n : ℕ). IsTableOf (put_state s m i (PutsObject row) (record { put = s.len; cause = None })) (noted_put t m i (record { put = n; cause = None }) (t.owed + 3 - 4))) (sym h.len)
    (put_added s m i t (PutsObject row) (record { put = s.len; cause = None }) (t.owed + 3 - 4) o h g (objects_rise_put row s.graph.objects o.objects)
    (omega (arith, h.owed, g.weight owes, sums, same)) (omega (arith, h.owed, g.weight owes, sums, same)))
  where
    g : Added s.owners s.graph.objects (owners_after s.rules s.graph (changed s.graph (PutsObject row)) None s.len s.owners) (put_object row s.graph.objects)
    g = added_moved s.rules s.graph row s.len s.owners h.keeps.ids (object_free s of row j)

    same : item_weight f.logged.item ≡ 4
    same = ap item_weight e

    sums : sum_by (owed_for_item s.jobs) (handled_at s.items i (record { put = s.len; cause = None })) + item_weight f.logged.item ≡ sum_by (owed_for_item s.jobs) s.items
    sums = items_put s job i f (record { put = s.len; cause = None })
put_case s m job i t o h f (item.Edge of row a b) e None j =
    subst (λ (n : ℕ). IsTableOf (put_state s m i (PutsEdge row) (record { put = s.len; cause = None })) (noted_put t m i (record { put = n; cause = None }) (t.owed + 1 - 2))) (sym h.len)
    (put_same s m i t (PutsEdge row) (record { put = s.len; cause = None }) (t.owed + 1 - 2) o h g o.objects
    (omega (arith, h.owed, g.weight owes, sums, same, more)) (omega (arith, h.owed, g.weight owes, sums, same, more)))
  where
    g : Same s.owners s.graph.objects (owners_after s.rules s.graph (changed s.graph (PutsEdge row)) None s.len s.owners) s.graph.objects
    g = same_moved s.rules s.graph (changed s.graph (PutsEdge row)) s.len s.owners h.keeps.ids refl (found_after_put row s.graph.edges)

    same : item_weight f.logged.item ≡ 2
    same = ap item_weight e

    more : sum_by owed_for_edge (changed s.graph (PutsEdge row)).edges ≡ sum_by owed_for_edge s.graph.edges + 1
    more = sum_by-put_edge owed_for_edge row s.graph.edges (edge_key_free s of row a b j)

    sums : sum_by (owed_for_item s.jobs) (handled_at s.items i (record { put = s.len; cause = None })) + item_weight f.logged.item ≡ sum_by (owed_for_item s.jobs) s.items
    sums = items_put s job i f (record { put = s.len; cause = None })

pub put_step : (s : State) (m job i : ℕ) (t : Table) → Ordered s.graph → IsTableOf s t → (f : PutFacts s job i) →
    IsTableOf (step s (record { moment = m; what = Put job i }))
    (noted_put t m i (record { put = t.len; cause = judged s f.logged.item }) (t.owed + put_weight (judged s f.logged.item) f.logged.item - item_weight f.logged.item))
put_step s m job i t o h f =
    subst (λ (v : Option Logged). IsTableOf (put_state s m i (put_change s v) (outcome s v)) (noted_put t m i (record { put = t.len; cause = judged s f.logged.item }) (t.owed + put_weight (judged s f.logged.item) f.logged.item - item_weight f.logged.item)))
    (sym f.item_is) (put_case s m job i t o h f f.logged.item refl (judged s f.logged.item) refl)

-- the weight of an item is within what is owed
pub item_within : (s : State) (job i : ℕ) (f : PutFacts s job i) → item_weight f.logged.item ≤ owed s
item_within s job i f = omega (arith, items_put s job i f (record { put = 0; cause = None }))

-- a put raises the length by one and lowers what is owed by as much
pub put_room : (s : State) (m job i : ℕ) (t : Table) → Ordered s.graph → IsTableOf s t → (f : PutFacts s job i) →
    t.len + 1 + (t.owed + put_weight (judged s f.logged.item) f.logged.item - item_weight f.logged.item) ≤ room_limit
put_room s m job i t o h f =
    let next = put_step s m job i t o h f in
    omega (arith, next.len, next.owed, next.keeps.within)
