use Rattle.std.proofs.Common.{◌≡◌, ◌≤◌, true, take, IsTrue}
use Rattle.delf_disk.specs.Causes.{Rose}
use Rattle.delf_disk.specs.Plain.{Plain, SameTelling}
use Rattle.delf_model.specs.Payloads.{Payloads}
use Rattle.script_runner.specs.Orders.{GivesAll}
use Rattle.script_runner.specs.Worlds.{StandsOn, world_of}
use Rattle.script_runner.proofs.Texts.{SoFar}
use Rattle.script_runner.proofs.program.run_commands.Given as goal

abbrev pub invariant-loop-command : goal.invariant-loop-command
invariant-loop-command g l = record {
  told : g.K.Sink.told l.sink ≡ g.K.Sink.told l.fn.sink;
  sink_count : g.K.Sink.faults l.sink ≡ g.K.Sink.faults l.fn.sink;
  done : l.done ≡ l.command-index;
  rules : l.store.book.rules ≡ l.fn.store.book.rules;
  held : l.store.book.held ≡ l.fn.store.book.held;
  telling : SameTelling g.R.Disk.told g.R.Disk.honest l.fn.store.book.rig l.store.book.rig;
  later : g.R.Disk.faults l.fn.store.book.rig ≤ g.R.Disk.faults l.store.book.rig;
  fell : l.store.book.down ≡ true → Rose (g.R.Disk.faults l.fn.store.book.rig) (g.R.Disk.faults l.store.book.rig);
  orders : GivesAll (take l.command-index l.commands) (g.R.Disk.order l.fn.store.book.rig) (g.R.Disk.orders l.fn.store.book.rig)
      (g.R.Disk.order l.store.book.rig) (g.R.Disk.orders l.store.book.rig);
  so_far : Plain (g.R.Disk.told l.fn.store.book.rig) (g.R.Disk.honest l.fn.store.book.rig) → (e : Payloads)
      → StandsOn (world_of l.fn.store.book l.fn.store.clock e) (g.R.Disk.may_leave l.fn.store.book.rig)
      → SoFar g.R.Disk.may_leave g.R.Disk.faults l.schema (world_of l.fn.store.book l.fn.store.clock e) (take l.command-index l.commands)
      (g.R.Disk.faults l.fn.store.book.rig) l.store.book l.store.clock (IsTrue (g.K.Sink.told l.fn.sink)) (g.K.Sink.held l.fn.sink) (g.K.Sink.held l.sink);
}
