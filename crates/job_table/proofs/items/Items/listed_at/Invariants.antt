use Rattle.std.proofs.Common.{◌≡◌, ◌≤◌, take, length}
use Rattle.std.specs.Prelude.{slice_get}
use Rattle.delf_model.specs.Report.{listed_from}
use Rattle.job_table.proofs.items.Items.listed_at.Given as goal

abbrev pub invariant-loop-i : goal.invariant-loop-i
invariant-loop-i l = record {
  within : l.i ≤ length l.self.list;
  rest : slice_get (listed_from l.job 0 (take l.i l.self.list)) l.left ≡ slice_get (listed_from l.job 0 l.self.list) l.place;
}

abbrev pub decreases-loop-i : goal.decreases-loop-i
decreases-loop-i l = l.i
