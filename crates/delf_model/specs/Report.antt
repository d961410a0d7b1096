-- What is told of a job: its counts, its status, its line, and the items that it listed.
use Rattle.std.specs.Prelude.{ℕ, ◌+◌, Bool, false, ◌&&◌, not, nat_eq, nat_lt, List, [], ◌∷◌, ◌++◌, Option, Some, None, count_by, is_some, is_none, slice_get, option_and_then, if◌then◌else◌, option_map}
use Rattle.delf_model.specs.declared.rows.Item.{Item}
use Rattle.delf_model.specs.declared.call.Cause.{Cause}
use Rattle.delf_model.specs.declared.call.Status.{Status}
use Rattle.delf_model.specs.declared.call.Status.TheVariants.{NoJob, Pending, Done, Restoring, Restored, Purged}
use Rattle.delf_model.specs.declared.call.JobLine.{JobLine}
use Rattle.delf_model.specs.declared.call.Listed.{Listed}
use Rattle.delf_model.specs.declared.ids.JobName.{JobName}
use Rattle.delf_model.specs.State.{State, Logged, Handled, JobRow, owned, left, job_row, find_job, job_of, is_object_item}
use Rattle.delf_model.specs.State.{last_erasure_or_zero}

abbrev pub is_of_job : ℕ → Logged → Bool
is_of_job job logged = nat_eq (job_of logged.item) job

-- how many items the job has
abbrev pub items_of : State → ℕ → ℕ
items_of s job = count_by (is_of_job job) s.items

abbrev pub is_object_of : ℕ → Logged → Bool
is_object_of job logged = is_of_job job logged && is_object_item logged.item

abbrev pub is_edge_of : ℕ → Logged → Bool
is_edge_of job logged = is_of_job job logged && not (is_object_item logged.item)

abbrev pub was_put : Option Handled → Bool
was_put None = false
was_put (Some how) = is_none how.cause

abbrev pub was_listed : Option Handled → Bool
was_listed None = false
was_listed (Some how) = is_some how.cause

abbrev pub is_put_of : ℕ → Logged → Bool
is_put_of job logged = is_of_job job logged && was_put logged.handled

abbrev pub is_listed_of : ℕ → Logged → Bool
is_listed_of job logged = is_of_job job logged && was_listed logged.handled

abbrev pub erased_count : State → ℕ → ℕ
erased_count s job = count_by (is_object_of job) s.items

abbrev pub cut_count : State → ℕ → ℕ
cut_count s job = count_by (is_edge_of job) s.items

abbrev pub put_count : State → ℕ → ℕ
put_count s job = count_by (is_put_of job) s.items

abbrev pub listed_count : State → ℕ → ℕ
listed_count s job = count_by (is_listed_of job) s.items

-- the status of a job: the first that holds of purged, pending, restoring, restored, done
abbrev pub status_of_row : State → JobRow → Status
status_of_row s row =
    if row.purged then Purged
    else if nat_lt 0 (owned s row.start) then Pending (owned s row.start)
    else if nat_lt 0 (left s row.start) then Restoring (left s row.start)
    else if is_some row.restored then Restored (put_count s row.start) (listed_count s row.start)
    else Done (erased_count s row.start) (cut_count s row.start) (last_erasure_or_zero row.last)

abbrev pub status_or_none : State → Option JobRow → Status
status_or_none s None = NoJob
status_or_none s (Some row) = status_of_row s row

-- the status of the job that the name means
abbrev pub status : State → JobName → Status
status s name = status_or_none s (option_and_then (job_row s.jobs) (find_job s.jobs name))

abbrev pub job_line : State → JobRow → JobLine
job_line s row = record {
  job = row.start;
  name = row.name;
  root = row.root;
  erased = erased_count s row.start;
  cut = cut_count s row.start;
  status = status_of_row s row;
}

abbrev pub line_of_row : State → Option JobRow → Option JobLine
line_of_row s found = option_map (job_line s) found

-- the line of the job at this place, by age
abbrev pub job_at : State → ℕ → Option JobLine
job_at s i = line_of_row s (slice_get s.jobs i)

abbrev pub listed_with : ℕ → Item → Option Cause → List Listed
listed_with i row None = []
listed_with i row (Some cause) = record { item = i; row = row; cause = cause } ∷ []

abbrev pub listed_by : ℕ → Item → Option Handled → List Listed
listed_by i row None = []
listed_by i row (Some how) = listed_with i row how.cause

-- the listed items of a job by falling number, where the list begins with this number
abbrev pub listed_from : ℕ → ℕ → List Logged → List Listed
listed_from job i [] = []
listed_from job i (x ∷ xs) =
    listed_from job (i + 1) xs ++ (if is_of_job job x then listed_by i x.item x.handled else [])

-- the listed item of the job at this place, by falling item number
abbrev pub listed_at : State → ℕ → ℕ → Option Listed
listed_at s job i = slice_get (listed_from job 0 s.items) i
