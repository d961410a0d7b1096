use Rattle.std.proofs.Common.{◌≡◌, ℕ, ◌-◌, ◌<◌, ◌≤◌, true, length}
use Rattle.std.specs.Prelude.{slice_index_or}
use Rattle.job_table.specs.declared.jobs.Row.{Row}
use Rattle.job_table.proofs.jobs.first_kept.Given as goal

abbrev pub invariant-rows : goal.invariant-rows
invariant-rows l = record {
  within : l.i ≤ length l.rows;
  purged : (k : ℕ) (d : Row) → k < l.i → (slice_index_or l.rows k d).purged ≡ true;
}

abbrev pub decreases-rows : goal.decreases-rows
decreases-rows l = length l.initial.rows - l.i
