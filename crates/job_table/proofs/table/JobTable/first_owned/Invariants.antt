use Rattle.std.proofs.Common.{◌≡◌, ◌-◌, drop, length}
use Rattle.std.specs.Prelude.{find}
use Rattle.job_table.specs.Owning.{has_row}
use Rattle.job_table.proofs.table.JobTable.first_owned.Given as goal

abbrev pub invariant-pairs : goal.invariant-pairs
invariant-pairs l = find (has_row l.self.jobs) l.self.owners ≡ find (has_row l.self.jobs) (drop l.i l.self.owners)

abbrev pub decreases-pairs : goal.decreases-pairs
decreases-pairs l = length l.self.owners - l.i
