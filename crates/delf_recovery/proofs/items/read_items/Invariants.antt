use Rattle.std.proofs.Common.{◌≡◌, length}
use Rattle.delf_disk.specs.Images.{Same}
use Rattle.delf_disk.specs.Plain.{Plain, SameKind}
use Rattle.delf_disk.specs.Moments.{Runs}
use Rattle.ledger.specs.Ledgers.{state_of}
use Rattle.delf_recovery.specs.Mending.{AreNoted}
use Rattle.delf_recovery.specs.Reading.{ReadsItems}
use Rattle.delf_recovery.proofs.items.read_items.Given as goal

abbrev pub invariant-loop-i : goal.invariant-loop-i
invariant-loop-i g l = record {
  kind : SameKind g.D.Disk.told g.D.Disk.honest g.D.Disk.order g.D.Disk.orders l.fn.disk l.disk;
  faults : g.D.Disk.faults l.disk ≡ g.D.Disk.faults l.fn.disk;
  seen : Plain (g.D.Disk.told l.fn.disk) (g.D.Disk.honest l.fn.disk) → g.D.Disk.seen l.disk ≡ g.D.Disk.seen l.fn.disk;
  moments : Plain (g.D.Disk.told l.fn.disk) (g.D.Disk.honest l.fn.disk) → Runs g.D.Disk.moment g.D.Disk.may_leave g.D.Disk.left_since Same l.fn.disk l.disk;
  read : ReadsItems (Plain (g.D.Disk.told l.fn.disk) (g.D.Disk.honest l.fn.disk)) l.log.area l.log.sizes (g.D.Disk.seen l.fn.disk) (state_of l.fold).items l.i;
  room : length l.notes ≡ length l.log.sizes;
  noted : Plain (g.D.Disk.told l.fn.disk) (g.D.Disk.honest l.fn.disk) → AreNoted l.log.area (g.D.Disk.seen l.fn.disk) l.notes;
}
