use Rattle.std.proofs.Common.{◌≡◌, false}
use Rattle.delf_disk.specs.Plain.{Plain, SameKind}
use Rattle.delf_model.specs.Payloads.{Payloads}
use Rattle.script_runner.specs.Worlds.{StandsOn, world_of}
use Rattle.script_runner.proofs.Steps.{SoFar}
use Rattle.script_runner.proofs.script.make_steps.Given as goal

abbrev pub invariant-loop-made : goal.invariant-loop-made
invariant-loop-made g l = record {
  up : l.book.down ≡ false;
  rules : l.book.rules ≡ l.fn.book.rules;
  held : l.book.held ≡ l.fn.book.held;
  count : g.R.Disk.faults l.book.rig ≡ g.R.Disk.faults l.fn.book.rig;
  kind : SameKind g.R.Disk.told g.R.Disk.honest g.R.Disk.order g.R.Disk.orders l.fn.book.rig l.book.rig;
  so_far : Plain (g.R.Disk.told l.fn.book.rig) (g.R.Disk.honest l.fn.book.rig) → (e : Payloads)
      → StandsOn (world_of l.fn.book l.clock e) (g.R.Disk.may_leave l.fn.book.rig)
      → SoFar g.R.Disk.may_leave (world_of l.fn.book l.clock e) l.made l.book l.clock;
}
