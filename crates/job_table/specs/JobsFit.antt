-- What holds of the kept rows of jobs and of the jobs by name.
use Rattle.std.specs.Prelude.{◌≡◌, ℕ, ◌+◌, ◌<◌, ◌≤◌, ◌^◌, List, Option, map, length, IsTrue}
use Rattle.delf_model.specs.declared.ids.JobName.TheVariants.{Named, Expiry}
use Rattle.delf_model.specs.State.{find_job}
use Rattle.job_table.specs.declared.jobs.Row.{Row}
use Rattle.job_table.specs.Table.{starts_rise}
use Rattle.job_table.specs.Parts.{row_of}

-- the rows go by rising start, the jobs by name are those that names mean, and there is room for the spare
pub record JobsFit (rows : List Row) (named_job expiry_job : ℕ → Option ℕ) (capacity named_room expiry_room spare : ℕ) : Type 0 where
  pub rise : IsTrue (starts_rise 0 4294967296 (map row_of rows))
  pub fits : length rows < 2 ^ 32
  pub named : (n : ℕ) → named_job n ≡ find_job (map row_of rows) (Named n)
  pub expiries : (id : ℕ) → expiry_job id ≡ find_job (map row_of rows) (Expiry id)
  pub rows_spare : length rows + spare ≤ capacity
  pub named_spare : spare ≤ named_room
  pub expiries_spare : spare ≤ expiry_room
