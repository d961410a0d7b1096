-- Which jobs were started earlier.
use Rattle.std.specs.Prelude.{ℕ, Bool, false, nat_lt, Option, Some, None}
use Rattle.delf_model.specs.State.{JobRow}

-- whether there is a job, and it was started earlier
abbrev pub is_earlier : ℕ → Option JobRow → Bool
is_earlier job None = false
is_earlier job (Some row) = nat_lt row.start job
