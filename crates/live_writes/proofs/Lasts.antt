-- The moment of each job's last erasure is within the limit of moments.
use Rattle.std.proofs.Common.{◌≡◌, ℕ, ◌≤◌, Bool, true, false, cond, Option, Some, None, List, [], ◌∷◌, ◌++◌, map, sym, subst, arith}
use Rattle.std.specs.Prelude.{nat_eq, option_and_then}
use Rattle.std.specs.Option.{unwrap_or}
use Rattle.delf_model.specs.declared.entry.Entry.{Entry}
use Rattle.delf_model.specs.declared.entry.What.{What}
use Rattle.delf_model.specs.declared.entry.What.TheVariants.{Create, Update, Link, Unlink, Delete, Restore, Expire, Cut, Erase, Put, Purge}
use Rattle.delf_model.specs.declared.ids.JobName.{JobName}
use Rattle.delf_model.specs.declared.ids.JobName.TheVariants.{Named, Expiry}
use Rattle.delf_model.specs.RuleSet.{RuleSet}
use Rattle.delf_model.specs.State.{State, JobRow, start, job_row, starts_at}
use Rattle.delf_model.specs.Step.{after, jobs_after, started_job, new_job, row_restored_at, erased_at, purged_if}
use Rattle.delf_model.specs.Owners.{unlink_start}
use Rattle.delf_model.specs.Legal.{Legal}
use Rattle.delf_model.specs.Room.{greatest_moment}
use Rattle.delf_model.proofs.Runs.{good_run}
use Rattle.delf_model.proofs.Lines.{moment_within}
use Rattle.job_table.specs.Table.{Table, IsTableOf, last_erasure, last_of_row}
use Rattle.live_writes.specs.History.{IsTableOfHistory}

abbrev pub LastWithin : Option ℕ → Type 0
LastWithin None = Unit {0}
LastWithin (Some moment) = moment ≤ greatest_moment

abbrev pub EachWithin : List JobRow → Type 0
EachWithin [] = Unit {0}
EachWithin (row ∷ rows) = LastWithin row.last × EachWithin rows

each_append : (xs ys : List JobRow) → EachWithin xs → EachWithin ys → EachWithin (xs ++ ys)
each_append [] ys one two = two
each_append (x ∷ xs) ys one two = (one.0, each_append xs ys one.1 two)

each_map : (f : JobRow → JobRow) (xs : List JobRow) → ((row : JobRow) → LastWithin row.last → LastWithin (f row).last) → EachWithin xs → EachWithin (map f xs)
each_map f [] keeps each = tt
each_map f (x ∷ xs) keeps each = (keeps x each.0, each_map f xs keeps each.1)

keeps_restored : (job position : ℕ) (row : JobRow) → LastWithin row.last → LastWithin (row_restored_at job position row).last
keeps_restored job position row within = go (nat_eq row.start job)
  where
    go : (b : Bool) → LastWithin (cond b (record row { restored = Some position }) row).last
    go true = within
    go false = within

keeps_purged : (job : ℕ) (row : JobRow) → LastWithin row.last → LastWithin (purged_if job row).last
keeps_purged job row within = go (nat_eq row.start job)
  where
    go : (b : Bool) → LastWithin (cond b (record row { purged = true }) row).last
    go true = within
    go false = within

keeps_erased : (job moment : ℕ) (row : JobRow) → moment ≤ greatest_moment → LastWithin row.last → LastWithin (erased_at job moment row).last
keeps_erased job moment row early within = go (nat_eq row.start job)
  where
    go : (b : Bool) → LastWithin (cond b (record row { last = Some moment }) row).last
    go true = early
    go false = within

started_within : (position : ℕ) (o : Option (ℕ × JobName)) → EachWithin (started_job position o)
started_within position None = tt
started_within position (Some pair) = (tt, tt)

jobs_within : (s : State) (moment : ℕ) (what : What) → moment ≤ greatest_moment → EachWithin s.jobs → EachWithin (jobs_after s moment what)
jobs_within s moment (Create tag kind id size) early each = each
jobs_within s moment (Update tag id size) early each = each
jobs_within s moment (Link tag edge from to size) early each = each
jobs_within s moment (Unlink tag edge from to name) early each =
    each_append s.jobs (started_job s.len (unlink_start s edge from to name)) each (started_within s.len (unlink_start s edge from to name))
jobs_within s moment (Delete tag id name) early each = each_append s.jobs (new_job s.len id (Named name) ∷ []) each (tt, tt)
jobs_within s moment (Restore tag job) early each = each_map (row_restored_at job s.len) s.jobs (keeps_restored job s.len) each
jobs_within s moment (Expire id) early each = each_append s.jobs (new_job s.len id (Expiry id) ∷ []) each (tt, tt)
jobs_within s moment (Cut job edge from to) early each = each_map (erased_at job moment) s.jobs (λ row. keeps_erased job moment row early) each
jobs_within s moment (Erase job id) early each = each_map (erased_at job moment) s.jobs (λ row. keeps_erased job moment row early) each
jobs_within s moment (Put job i) early each = each
jobs_within s moment (Purge job) early each = each_map (purged_if job) s.jobs (keeps_purged job) each

after_within : (rules : RuleSet) (history : List Entry) → Legal rules history → EachWithin (after rules history).jobs
after_within rules history legal =
    good_run (λ s. EachWithin s.jobs) (λ s e each line. jobs_within s e.moment e.what (moment_within s e line) each) (start rules) history tt legal

row_within : (rows : List JobRow) (job : ℕ) → EachWithin rows → LastWithin (option_and_then last_of_row (job_row rows job))
row_within [] job each = tt
row_within (row ∷ rows) job each = go (starts_at job row) (row_within rows job each.1)
  where
    go : (b : Bool) → LastWithin (option_and_then last_of_row (job_row rows job)) → LastWithin (option_and_then last_of_row (cond b (Some row) (job_row rows job)))
    go true rest = each.0
    go false rest = rest

unwrapped : (o : Option ℕ) → LastWithin o → unwrap_or o 0 ≤ greatest_moment
unwrapped None within = omega arith
unwrapped (Some moment) within = within

-- what a table of a history says of a job's last erasure
pub last_of_table : (t : Table) (rules : RuleSet) (job : ℕ) (told : Option ℕ) → IsTableOfHistory t rules →
    ((s : State) → IsTableOf s t → told ≡ last_erasure s job) → unwrap_or told 0 ≤ greatest_moment
last_of_table t rules job told h is =
    unwrapped told (subst (λ (o : Option ℕ). LastWithin o) (sym (is (after rules h.0) h.2)) (row_within (after rules h.0).jobs job (after_within rules h.0 h.1)))
