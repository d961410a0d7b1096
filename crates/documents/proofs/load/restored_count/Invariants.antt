use Rattle.std.proofs.Common.{◌≡◌, ◌≤◌, take}
use Rattle.documents.specs.Loads.{restored_count}
use Rattle.documents.proofs.load.restored_count.Given as goal

abbrev pub invariant-loop-line : goal.invariant-loop-line
invariant-loop-line l = record {
  counted : l.count ≡ restored_count (take l.line-index l.lines);
  few : l.count ≤ l.line-index;
}
