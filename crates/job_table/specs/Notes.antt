-- What each kind of entry changes in a table.
use Rattle.std.specs.Prelude.{ℕ, ◌+◌, ◌-◌, Bool, cond, ◌&&◌, ◌||◌, nat_eq, List, [], ◌∷◌, ◌++◌, Option, Some, None}
use Rattle.delf_model.specs.declared.ids.JobName.{JobName}
use Rattle.delf_model.specs.declared.rows.Item.{Item}
use Rattle.delf_model.specs.declared.rows.EdgeKey.{EdgeKey}
use Rattle.delf_model.specs.declared.call.Cause.{Cause}
use Rattle.delf_model.specs.RuleSet.{RuleSet, is_deep, is_refcount}
use Rattle.delf_model.specs.Graph.{Graph}
use Rattle.delf_model.specs.Store.{counted_refs}
use Rattle.delf_model.specs.State.{Logged, Handled, is_object_item, starts_at}
use Rattle.delf_model.specs.Step.{new_job, row_restored_at, purged_if, erased_at, unhandled, handled_at}
use Rattle.job_table.specs.Table.{Table}
use Rattle.job_table.specs.Items.{is_unhandled_of}
use Rattle.job_table.specs.Parts.{changed_first}

abbrev pub with_seat : List ℕ → Option ℕ → List ℕ
with_seat seats None = seats
with_seat seats (Some seat) = seats ++ seat ∷ []

-- the table with one entry more: what each entry changes
abbrev pub noted : Table → ℕ → Option ℕ → ℕ → Table
noted t moment seat owed = record t {
  len = t.len + 1;
  moment = moment;
  owed = owed;
  seats = with_seat t.seats seat;
  spare = t.spare - 1;
}

-- an entry that starts a job
abbrev pub noted_start : Table → ℕ → Option ℕ → ℕ → JobName → ℕ → Table
noted_start t moment seat root name owed = record (noted t moment seat owed) {
  owners = t.owners ++ (root, t.len) ∷ [];
  jobs = t.jobs ++ new_job t.len root name ∷ [];
}

-- an entry that restores a job
abbrev pub noted_restore : Table → ℕ → Option ℕ → ℕ → ℕ → Table
noted_restore t moment seat job owed = record (noted t moment seat owed) {
  jobs = changed_first (starts_at job) (row_restored_at job t.len) t.jobs;
}

-- an entry that purges a job
abbrev pub noted_purge : Table → ℕ → ℕ → ℕ → Table
noted_purge t moment job owed = record (noted t moment None owed) {
  jobs = changed_first (starts_at job) (purged_if job) t.jobs;
}

-- an entry that logs an item
abbrev pub noted_item : Table → ℕ → ℕ → Item → ℕ → Table
noted_item t moment job row owed = record (noted t moment None owed) {
  items = t.items ++ unhandled row ∷ [];
  jobs = changed_first (starts_at job) (erased_at job moment) t.jobs;
}

-- an entry that handles an item
abbrev pub noted_put : Table → ℕ → ℕ → Handled → ℕ → Table
noted_put t moment i how owed = record (noted t moment None owed) {
  items = handled_at t.items i how;
}

-- the unhandled items of a job, with what each counts once the job is restored
abbrev pub weight_of : ℕ → Logged → ℕ
weight_of job logged = cond (is_unhandled_of job logged) (cond (is_object_item logged.item) 4 2) 0

-- what an unhandled item of a restored job counts
abbrev pub item_weight : Item → ℕ
item_weight it = cond (is_object_item it) 4 2

-- what the row that a put brings back counts
abbrev pub row_weight : Item → ℕ
row_weight it = cond (is_object_item it) 3 1

abbrev pub put_weight : Option Cause → Item → ℕ
put_weight None it = row_weight it
put_weight (Some cause) it = 0

-- what a cut of this edge does to its target, by the references before it: whether it condemns the target
abbrev pub condemns_before : RuleSet → (ℕ → Bool) → Graph → EdgeKey → Bool
condemns_before rules refs g key = is_deep rules key.edge || (is_refcount rules key.edge && nat_eq (counted_refs refs g key.to) 1)

-- whether an unlink of this edge takes the last reference
abbrev pub takes_last : RuleSet → (ℕ → Bool) → Graph → EdgeKey → Bool
takes_last rules refs g key = is_refcount rules key.edge && nat_eq (counted_refs refs g key.to) 1
