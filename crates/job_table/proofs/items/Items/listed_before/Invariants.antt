use Rattle.std.proofs.Common.{◌≡◌, ◌≤◌, take, length}
use Rattle.std.specs.Prelude.{slice_get}
use Rattle.delf_model.specs.Report.{listed_from}
use Rattle.job_table.proofs.items.Items.listed_before.Given as goal

abbrev pub invariant-items : goal.invariant-items
invariant-items l = record {
  within : l.i ≤ length l.self.list;
  rest : slice_get (listed_from l.job 0 (take l.i l.self.list)) 0 ≡ slice_get (listed_from l.job 0 (take l.below l.self.list)) 0;
}

abbrev pub decreases-items : goal.decreases-items
decreases-items l = l.i
