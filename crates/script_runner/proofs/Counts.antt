-- A history has at least as many entries as jobs and items, and room for its rows.
use Rattle.std.proofs.Common.{◌≡◌, ℕ, zero, suc, ◌+◌, ◌≤◌, Bool, true, false, cond, Option, Some, None, List, [], ◌∷◌, length, refl, arith, length-append}
use Rattle.std.proofs.lemmas.List.{length-map}
use Rattle.std.proofs.lemmas.List.Sums.{sum_by-cons}
use Rattle.std.specs.Prelude.{sum_by, is_some, slice_get}
use Rattle.delf_model.specs.declared.ids.JobName.{JobName}
use Rattle.delf_model.specs.declared.rows.ObjectRow.{ObjectRow}
use Rattle.delf_model.specs.declared.rows.EdgeRow.{EdgeRow}
use Rattle.delf_model.specs.declared.call.Cause.{Cause}
use Rattle.delf_model.specs.declared.rows.Item.{Item}
use Rattle.delf_model.specs.declared.entry.Entry.{Entry}
use Rattle.delf_model.specs.declared.entry.What.{What}
use Rattle.delf_model.specs.declared.entry.What.TheVariants.{Create, Update, Link, Unlink, Delete, Restore, Expire, Cut, Erase, Put, Purge}
use Rattle.delf_model.specs.RuleSet.{RuleSet}
use Rattle.delf_model.specs.Graph.{object_at, edge_at}
use Rattle.delf_model.specs.State.{State, Logged, Handled, Owners, start, owner_in}
use Rattle.delf_model.specs.Step.{step, run, after, jobs_after, items_after, started_job, row_restored_at, erased_at, purged_if, edge_item, object_item, handled_at, outcome}
use Rattle.delf_model.specs.Owners.{unlink_start, key_of}
use Rattle.delf_model.specs.Legal.{Legal}
use Rattle.delf_model.specs.Room.{owed_for_object, owed_for_edge}
use Rattle.delf_model.specs.Report.{listed_from, listed_by, listed_with, is_of_job}
use Rattle.delf_model.proofs.Good.{good_after}

one_start : (position : ℕ) (o : Option (ℕ × JobName)) → length (started_job position o) ≤ 1
one_start position None = omega arith
one_start position (Some pair) = omega arith

jobs_step : (s : State) (moment : ℕ) (what : What) → length (jobs_after s moment what) ≤ length s.jobs + 1
jobs_step s moment (Create tag kind id size) = omega arith
jobs_step s moment (Update tag id size) = omega arith
jobs_step s moment (Link tag edge from to size) = omega arith
jobs_step s moment (Unlink tag edge from to name) =
    omega (arith, length-append s.jobs (started_job s.len (unlink_start s edge from to name)), one_start s.len (unlink_start s edge from to name))
jobs_step s moment (Delete tag id name) = simp length-append (omega arith)
jobs_step s moment (Restore tag job) = omega (arith, length-map s.jobs (row_restored_at job s.len))
jobs_step s moment (Expire id) = simp length-append (omega arith)
jobs_step s moment (Cut job edge from to) = omega (arith, length-map s.jobs (erased_at job moment))
jobs_step s moment (Erase job id) = omega (arith, length-map s.jobs (erased_at job moment))
jobs_step s moment (Put job i) = omega arith
jobs_step s moment (Purge job) = omega (arith, length-map s.jobs (purged_if job))

one_edge : (s : State) (job : ℕ) (o : Option EdgeRow) → length (edge_item s.graph job o) ≤ 1
one_edge s job None = omega arith
one_edge s job (Some row) = omega arith

one_object : (job : ℕ) (o : Option ObjectRow) → length (object_item job o) ≤ 1
one_object job None = omega arith
one_object job (Some row) = omega arith

length-handled : (xs : List Logged) (i : ℕ) (how : Handled) → length (handled_at xs i how) ≡ length xs
length-handled [] i how = refl
length-handled (x ∷ xs) zero how = refl
length-handled (x ∷ xs) (suc i) how = omega (arith, length-handled xs i how)

items_step : (s : State) (what : What) → length (items_after s what) ≤ length s.items + 1
items_step s (Create tag kind id size) = omega arith
items_step s (Update tag id size) = omega arith
items_step s (Link tag edge from to size) = omega arith
items_step s (Unlink tag edge from to name) = omega arith
items_step s (Delete tag id name) = omega arith
items_step s (Restore tag job) = omega arith
items_step s (Expire id) = omega arith
items_step s (Cut job edge from to) =
    omega (arith, length-append s.items (edge_item s.graph job (edge_at s.graph (key_of edge from to))), one_edge s job (edge_at s.graph (key_of edge from to)))
items_step s (Erase job id) =
    omega (arith, length-append s.items (object_item job (object_at s.graph id)), one_object job (object_at s.graph id))
items_step s (Put job i) = omega (arith, length-handled s.items i (outcome s (slice_get s.items i)))
items_step s (Purge job) = omega arith

jobs_run : (s : State) (es : List Entry) → length (run s es).jobs ≤ length s.jobs + length es
jobs_run s [] = omega arith
jobs_run s (e ∷ es) = omega (arith, jobs_run (step s e) es, jobs_step s e.moment e.what)

items_run : (s : State) (es : List Entry) → length (run s es).items ≤ length s.items + length es
items_run s [] = omega arith
items_run s (e ∷ es) = omega (arith, items_run (step s e) es, items_step s e.what)

from_none : (a b : ℕ) → a ≤ 0 + b → a ≤ b
from_none a b is = omega arith

pub jobs_within : (rules : RuleSet) (h : List Entry) → length (after rules h).jobs ≤ length h
jobs_within rules h = from_none (length (after rules h).jobs) (length h) (jobs_run (start rules) h)

pub items_within : (rules : RuleSet) (h : List Entry) → length (after rules h).items ≤ length h
items_within rules h = from_none (length (after rules h).items) (length h) (items_run (start rules) h)

-- each row is owed an entry

owed_one : (b : Bool) → 1 ≤ cond b 1 3
owed_one true = omega arith
owed_one false = omega arith

objects_owed : (owners : Owners) (xs : List ObjectRow) → length xs ≤ sum_by (owed_for_object owners) xs
objects_owed owners [] = omega arith
objects_owed owners (x ∷ xs) = omega (arith, sum_by-cons (owed_for_object owners) x xs, objects_owed owners xs, owed_one (is_some (owner_in owners x.id)))

edges_owed : (xs : List EdgeRow) → length xs ≤ sum_by owed_for_edge xs
edges_owed [] = omega arith
edges_owed (x ∷ xs) = omega (arith, sum_by-cons owed_for_edge x xs, edges_owed xs)

pub objects_few : (rules : RuleSet) (h : List Entry) → Legal rules h → length (after rules h).graph.objects ≤ 500000
objects_few rules h legal =
    let within = (good_after rules h legal).within in
    omega (arith, objects_owed (after rules h).owners (after rules h).graph.objects)

pub edges_few : (rules : RuleSet) (h : List Entry) → Legal rules h → length (after rules h).graph.edges ≤ 500000
edges_few rules h legal =
    let within = (good_after rules h legal).within in
    omega (arith, edges_owed (after rules h).graph.edges)
