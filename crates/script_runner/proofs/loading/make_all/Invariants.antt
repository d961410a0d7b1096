use Rattle.std.proofs.Common.{◌≡◌, take}
use Rattle.delf_disk.specs.Plain.{Plain, SameKind}
use Rattle.delf_model.specs.Payloads.{Payloads}
use Rattle.script_runner.specs.Standing.{Falls, Leads}
use Rattle.script_runner.specs.Worlds.{StandsOn, world_of}
use Rattle.script_runner.proofs.loading.make_all.Given as goal

abbrev pub invariant-loop-command : goal.invariant-loop-command
invariant-loop-command g l = record {
  rules : l.store.book.rules ≡ l.fn.store.book.rules;
  kind : SameKind g.R.Disk.told g.R.Disk.honest g.R.Disk.order g.R.Disk.orders l.fn.store.book.rig l.store.book.rig;
  falls : Falls g.R.Disk.faults l.fn.store.book l.store.book;
  leads : Plain (g.R.Disk.told l.fn.store.book.rig) (g.R.Disk.honest l.fn.store.book.rig) → (e : Payloads)
      → StandsOn (world_of l.fn.store.book l.fn.store.clock e) (g.R.Disk.may_leave l.fn.store.book.rig)
      → Leads g.R.Disk.may_leave g.R.Disk.faults l.schema (world_of l.fn.store.book l.fn.store.clock e) (take l.command-index l.commands)
      (g.R.Disk.faults l.fn.store.book.rig) l.store.book l.store.clock;
}
