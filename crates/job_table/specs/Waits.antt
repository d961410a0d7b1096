-- From which moment jobs wait for their window, and what holds of the queue of them.
use Rattle.std.specs.Prelude.{◌≡◌, ℕ, ◌+◌, ◌<◌, ◌≤◌, Bool, true, cond, ◌&&◌, not, nat_lt, List, Option, Some, None, find, is_some, length, slice_index_or, option_and_then, IsTrue}
use Rattle.delf_model.specs.State.{JobRow}
use Rattle.delf_model.specs.State.{last_erasure_or_zero}
use Rattle.job_table.specs.declared.jobs.Row.{Row}
use Rattle.job_table.specs.Apart.{are_apart}
use Rattle.job_table.specs.Owning.{pairs_rise}
use Rattle.job_table.specs.Parts.{is_start}
use Rattle.job_table.specs.Table.{owner_among}

-- the moment from which a job that is not purged waits for its window: that of its last erasure, none before the first
abbrev pub waits_of : Row → Option ℕ
waits_of row = cond row.purged None row.last

abbrev pub waits_in : List Row → ℕ → Option ℕ
waits_in rows start = option_and_then waits_of (find (is_start start) rows)

abbrev pub erased_row : ℕ → Row → Row
erased_row moment row = record row { last = Some moment }

-- the window after the last erasure of a job that is not purged is over
abbrev pub has_waited : ℕ → ℕ → JobRow → Bool
has_waited window moment row = not row.purged && is_some row.last && nat_lt (last_erasure_or_zero row.last + window) moment

-- the jobs that wait are those that have erased and are not purged, the rows in front of a place are purged, and there is room for the spare
pub record WaitsFit (rows : List Row) (pairs : List (ℕ × ℕ)) (capacity front spare : ℕ) : Type 0 where
  pub rise : IsTrue (pairs_rise pairs)
  pub apart : IsTrue (are_apart pairs)
  pub waits : (start : ℕ) → owner_among pairs start ≡ waits_in rows start
  pub room : length pairs + spare ≤ capacity
  pub within : front ≤ length rows
  pub purged : (k : ℕ) (d : Row) → k < front → (slice_index_or rows k d).purged ≡ true
