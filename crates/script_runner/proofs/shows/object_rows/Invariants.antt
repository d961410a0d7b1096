use Rattle.std.proofs.Common.{flat_map, take}
use Rattle.script_runner.specs.Lines.{Moved, Tells}
use Rattle.script_runner.specs.Serial.{object_line}
use Rattle.script_runner.proofs.shows.object_rows.Given as goal

abbrev pub invariant-loop-row : goal.invariant-loop-row
invariant-loop-row g l = record {
  moved : Moved g.R.Disk.told g.R.Disk.honest g.R.Disk.may_leave g.R.Disk.order g.R.Disk.orders g.R.Disk.faults l.fn.book l.book;
  said : Tells g.R.Disk.told g.R.Disk.honest g.R.Disk.may_leave l.fn.book (λ w. flat_map (object_line l.schema w) (take l.row-index l.row-items)) l.text.items;
}
