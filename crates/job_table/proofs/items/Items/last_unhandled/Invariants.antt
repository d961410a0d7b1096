use Rattle.std.proofs.Common.{◌≤◌, length}
use Rattle.job_table.specs.Items.{is_unhandled_of}
use Rattle.job_table.proofs.SpanWalks.{FailsFrom}
use Rattle.job_table.proofs.items.Items.last_unhandled.Given as goal

abbrev pub invariant-items : goal.invariant-items
invariant-items l = record {
  within : l.i ≤ length l.self.list;
  later : FailsFrom (is_unhandled_of l.job) l.self.list l.i;
}

abbrev pub decreases-items : goal.decreases-items
decreases-items l = l.i
