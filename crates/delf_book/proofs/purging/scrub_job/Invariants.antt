use Rattle.std.proofs.Common.{◌≡◌, ◌-◌, ◌≤◌, List, length, drop}
use Rattle.delf_disk.specs.Moments.{Leaves}
use Rattle.delf_disk.specs.Plain.{Plain, SameKind}
use Rattle.gate_log.specs.Logs.{StandIn}
use Rattle.delf_model.specs.declared.entry.Entry.{Entry}
use Rattle.delf_model.specs.Payloads.{Payloads}
use Rattle.delf_model.specs.RuleSet.{RuleSet}
use Rattle.delf_model.specs.Step.{after}
use Rattle.payload_laws.specs.Holders.{unput_of}
use Rattle.store_laws.specs.Moves.{RestIn}
use Rattle.store_laws.specs.Steps.{AreScrubbedBut}
use Rattle.store_laws.specs.Stores.{journal_of, vault_of}
use Rattle.ledger.specs.Ledgers.{state_of}
use Rattle.delf_book.specs.Dead.{AreDead}
use Rattle.delf_book.specs.Writing.{Rests}
use Rattle.delf_book.proofs.Scrubbing.{Among}
use Rattle.delf_book.proofs.purging.scrub_job.Given as goal

abbrev pub invariant-items : goal.invariant-items
invariant-items g l = record {
  area : l.vault.area ≡ l.fn.vault.area;
  sizes : l.vault.sizes ≡ l.fn.vault.sizes;
  spare : l.fn.vault.spare ≤ l.vault.spare;
  kind : SameKind g.D.Disk.told g.D.Disk.honest g.D.Disk.order g.D.Disk.orders l.fn.disk l.disk;
  faults : g.D.Disk.faults l.disk ≡ g.D.Disk.faults l.fn.disk;
  stands : Plain (g.D.Disk.told l.fn.disk) (g.D.Disk.honest l.fn.disk) → StandIn l.vault.area l.vault.sizes (g.D.Disk.may_leave l.disk);
  among : Among (unput_of l.job l.from (drop l.from (state_of l.ledger).items)) (unput_of l.job 0 (state_of l.ledger).items);
  leaves : Plain (g.D.Disk.told l.fn.disk) (g.D.Disk.honest l.fn.disk) → (rules : RuleSet) (history : List Entry) (e : Payloads)
      → RestIn rules history e (g.D.Disk.may_leave l.fn.disk) → AreDead (after rules history) (unput_of l.job 0 (state_of l.ledger).items)
      → Leaves g.D.Disk.moment g.D.Disk.may_leave g.D.Disk.left_since (Rests rules history e) l.fn.disk l.disk;
  remain : Plain (g.D.Disk.told l.fn.disk) (g.D.Disk.honest l.fn.disk) → (rules : RuleSet) (history : List Entry) (e : Payloads)
      → RestIn rules history e (g.D.Disk.may_leave l.fn.disk) → AreDead (after rules history) (unput_of l.job 0 (state_of l.ledger).items)
      → AreScrubbedBut (after rules history) (unput_of l.job 0 (state_of l.ledger).items) (journal_of (g.D.Disk.seen l.fn.disk)) (vault_of (g.D.Disk.seen l.fn.disk))
      → AreScrubbedBut (after rules history) (unput_of l.job l.from (drop l.from (state_of l.ledger).items)) (journal_of (g.D.Disk.seen l.disk)) (vault_of (g.D.Disk.seen l.disk));
}

abbrev pub decreases-items : goal.decreases-items
decreases-items g l = length (state_of l.ledger).items - l.from
