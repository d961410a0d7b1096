use Rattle.std.proofs.Common.{◌≤◌, not, length}
use Rattle.delf_model.specs.Legal.{is_handled_end}
use Rattle.job_table.proofs.SpanWalks.{FailsFrom}
use Rattle.job_table.proofs.items.Items.end_handled.Given as goal

abbrev pub invariant-items : goal.invariant-items
invariant-items l = record {
  within : l.i ≤ length l.self.list;
  later : FailsFrom (λ x. not (is_handled_end l.job l.id l.birth x)) l.self.list l.i;
}

abbrev pub decreases-items : goal.decreases-items
decreases-items l = l.i
