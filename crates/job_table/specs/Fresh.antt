-- Jobs that have erased nothing yet. Each of them still owns an object, so none of them may be purged.
use Rattle.std.specs.Prelude.{◌≡◌, ℕ, ◌<◌, Bool, true, false, List, Option, Some, None, is_none}
use Rattle.delf_model.specs.State.{JobRow, job_row}
use Rattle.job_table.specs.Table.{owned_among}

abbrev pub is_fresh_row : Option JobRow → Bool
is_fresh_row None = false
is_fresh_row (Some row) = is_none row.last

-- the job has a row and no erasure
abbrev pub is_fresh : List JobRow → ℕ → Bool
is_fresh jobs job = is_fresh_row (job_row jobs job)

-- each job without an erasure owns an object
abbrev pub FreshOwn : List JobRow → List (ℕ × ℕ) → Type 0
FreshOwn jobs pairs = (job : ℕ) → is_fresh jobs job ≡ true → 0 < owned_among pairs job
