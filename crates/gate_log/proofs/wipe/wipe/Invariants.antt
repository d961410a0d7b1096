use Rattle.std.proofs.Common.{◌≡◌, ◌-◌, ◌≤◌, replicate}
use Rattle.delf_disk.specs.Images.{Torn, Written}
use Rattle.delf_disk.specs.Plain.{Plain, SameKind}
use Rattle.delf_disk.specs.Moments.{Runs}
use Rattle.gate_log.proofs.wipe.wipe.Given as goal

abbrev pub invariant-pieces : goal.invariant-pieces
invariant-pieces g l = record {
  within : l.done ≤ l.n;
  kind : SameKind g.D.Disk.told g.D.Disk.honest g.D.Disk.order g.D.Disk.orders l.fn.disk l.disk;
  faults : g.D.Disk.faults l.disk ≡ g.D.Disk.faults l.fn.disk;
  written : Plain (g.D.Disk.told l.fn.disk) (g.D.Disk.honest l.fn.disk) → Written l.area l.at (replicate l.done 0) (g.D.Disk.seen l.fn.disk) (g.D.Disk.seen l.disk);
  moments : Plain (g.D.Disk.told l.fn.disk) (g.D.Disk.honest l.fn.disk)
      → Runs g.D.Disk.moment g.D.Disk.may_leave g.D.Disk.left_since (Torn l.area l.at l.n) l.fn.disk l.disk;
}

abbrev pub decreases-pieces : goal.decreases-pieces
decreases-pieces g l = l.n - l.done
