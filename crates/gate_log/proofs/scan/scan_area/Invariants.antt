use Rattle.std.proofs.Common.{◌≡◌, ◌-◌, ◌^◌, ◌<◌, take, vec_len}
use Rattle.delf_disk.specs.Areas.{area_of}
use Rattle.delf_disk.specs.Images.{Same}
use Rattle.delf_disk.specs.Plain.{Plain, SameKind}
use Rattle.delf_disk.specs.Moments.{Runs}
use Rattle.gate_log.specs.Places.{AreTied}
use Rattle.gate_log.specs.Unsynced.{LosesNone}
use Rattle.gate_log.proofs.Reading.{AreRead}
use Rattle.gate_log.proofs.scan.scan_area.Given as goal

abbrev pub invariant-gates : goal.invariant-gates
invariant-gates g l = record {
  within : l.at < l.len;
  tied : AreTied l.places.items l.at;
  count : vec_len l.places < 2 ^ 32;
  kind : SameKind g.D.Disk.told g.D.Disk.honest g.D.Disk.order g.D.Disk.orders l.fn.disk l.disk;
  faults : g.D.Disk.faults l.disk ≡ g.D.Disk.faults l.fn.disk;
  seen : Plain (g.D.Disk.told l.fn.disk) (g.D.Disk.honest l.fn.disk) → g.D.Disk.seen l.disk ≡ g.D.Disk.seen l.fn.disk;
  moments : Plain (g.D.Disk.told l.fn.disk) (g.D.Disk.honest l.fn.disk) → Runs g.D.Disk.moment g.D.Disk.may_leave g.D.Disk.left_since Same l.fn.disk l.disk;
  images : Plain (g.D.Disk.told l.fn.disk) (g.D.Disk.honest l.fn.disk) → LosesNone g.D.Disk.moment g.D.Disk.may_leave g.D.Disk.left_since l.fn.disk l.disk;
  read : Plain (g.D.Disk.told l.fn.disk) (g.D.Disk.honest l.fn.disk)
      → AreRead (take 8 (area_of l.area (g.D.Disk.seen l.fn.disk))) (area_of l.area (g.D.Disk.seen l.fn.disk)) l.places.items l.at;
}

abbrev pub decreases-gates : goal.decreases-gates
decreases-gates g l = l.len - l.at
