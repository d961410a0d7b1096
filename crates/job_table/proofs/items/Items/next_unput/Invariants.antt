use Rattle.std.proofs.Common.{◌-◌, ◌≤◌}
use Rattle.job_table.specs.Unput.{is_unput}
use Rattle.job_table.proofs.Unputs.{FailsBetween}
use Rattle.job_table.proofs.items.Items.next_unput.Given as goal

abbrev pub invariant-items : goal.invariant-items
invariant-items l = record {
  low : l.from ≤ l.i;
  passed : FailsBetween (is_unput l.job) l.self.list l.from l.i;
}

abbrev pub decreases-items : goal.decreases-items
decreases-items l = l.span.end - l.i
