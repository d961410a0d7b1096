-- The queue of restored jobs that have unhandled items.
use Rattle.std.specs.Prelude.{◌≡◌, ℕ, ◌+◌, ◌≤◌, cond, nat_lt, List, Option, None, count_by, length, option_and_then, IsTrue}
use Rattle.delf_model.specs.State.{JobRow, Logged, job_row}
use Rattle.job_table.specs.Apart.{are_apart}
use Rattle.job_table.specs.Items.{is_unhandled_of}
use Rattle.job_table.specs.Owning.{pairs_rise}
use Rattle.job_table.specs.Table.{owner_among, restored_of_row}

-- jobs by rank, each once, with room for the spare
pub record QueueFits (pairs : List (ℕ × ℕ)) (capacity spare : ℕ) : Type 0 where
  pub rise : IsTrue (pairs_rise pairs)
  pub apart : IsTrue (are_apart pairs)
  pub room : length pairs + spare ≤ capacity

-- the position of the job's Restore
abbrev pub restored_in : List JobRow → ℕ → Option ℕ
restored_in jobs job = option_and_then restored_of_row (job_row jobs job)

-- the same, where the job has an unhandled item
abbrev pub restoring_at : List JobRow → List Logged → ℕ → Option ℕ
restoring_at jobs items job = cond (nat_lt 0 (count_by (is_unhandled_of job) items)) (restored_in jobs job) None

-- the queue has the restored jobs with unhandled items, by the position of their Restore
abbrev pub AreRestoring : List JobRow → List Logged → List (ℕ × ℕ) → Type 0
AreRestoring jobs items pairs = (job : ℕ) → owner_among pairs job ≡ restoring_at jobs items job
