use Rattle.std.proofs.Common.{◌≡◌, ◌<◌, ℕ}
use Rattle.delf_disk.specs.Areas.{rest_of}
use Rattle.delf_disk.specs.Plain.{Plain, SameKind}
use Rattle.delf_disk.specs.Moments.{Leaves}
use Rattle.gate_log.specs.Logs.{StandIn}
use Rattle.delf_model.specs.Payloads.{Payloads}
use Rattle.payload_laws.specs.Holders.{IsLive}
use Rattle.ledger.specs.Ledgers.{state_of}
use Rattle.delf_book.specs.Reads.{carrier_in}
use Rattle.delf_book.specs.Writing.{Rests}
use Rattle.store_laws.specs.Moves.{RestIn}
use Rattle.delf_recovery.specs.Mending.{IsZero, AreNoted}
use Rattle.delf_recovery.proofs.scrubs.scrub_dead.Given as goal

abbrev pub invariant-loop-i : goal.invariant-loop-i
invariant-loop-i g l = record {
  area : l.log.area ≡ l.fn.log.area;
  sizes : l.log.sizes ≡ l.fn.log.sizes;
  kind : SameKind g.D.Disk.told g.D.Disk.honest g.D.Disk.order g.D.Disk.orders l.fn.disk l.disk;
  faults : g.D.Disk.faults l.disk ≡ g.D.Disk.faults l.fn.disk;
  stands : Plain (g.D.Disk.told l.fn.disk) (g.D.Disk.honest l.fn.disk) → StandIn l.log.area l.log.sizes (g.D.Disk.may_leave l.disk);
  leaves : Plain (g.D.Disk.told l.fn.disk) (g.D.Disk.honest l.fn.disk) → (e : Payloads) → RestIn l.fold.rules l.fold.history e (g.D.Disk.may_leave l.fn.disk)
      → Leaves g.D.Disk.moment g.D.Disk.may_leave g.D.Disk.left_since (Rests l.fold.rules l.fold.history e) l.fn.disk l.disk;
  zero : Plain (g.D.Disk.told l.fn.disk) (g.D.Disk.honest l.fn.disk) → (k : ℕ) → k < l.i → (IsLive (state_of l.fold) (carrier_in l.area k) → ⊥)
      → IsZero (carrier_in l.area k) (g.D.Disk.seen l.disk);
  noted : Plain (g.D.Disk.told l.fn.disk) (g.D.Disk.honest l.fn.disk) → AreNoted l.area (g.D.Disk.seen l.disk) l.notes;
  other : Plain (g.D.Disk.told l.fn.disk) (g.D.Disk.honest l.fn.disk) → rest_of l.area (g.D.Disk.seen l.disk) ≡ rest_of l.area (g.D.Disk.seen l.fn.disk);
}
