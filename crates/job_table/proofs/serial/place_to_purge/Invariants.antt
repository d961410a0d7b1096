use Rattle.std.proofs.Common.{◌≡◌, ℕ, ◌-◌, ◌<◌, false, length}
use Rattle.std.specs.Prelude.{slice_index_or}
use Rattle.job_table.specs.declared.jobs.Row.{Row}
use Rattle.job_table.specs.Serial.{purges_in}
use Rattle.job_table.proofs.serial.place_to_purge.Given as goal

abbrev pub invariant-rows : goal.invariant-rows
invariant-rows l = (k : ℕ) (d : Row) → k < l.i → purges_in l.owners.list l.items.list l.window l.moment (slice_index_or l.rows k d) ≡ false

abbrev pub decreases-rows : goal.decreases-rows
decreases-rows l = length l.initial.rows - l.i
