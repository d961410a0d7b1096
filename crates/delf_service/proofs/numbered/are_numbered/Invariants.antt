use Rattle.std.proofs.Common.{◌≡◌, ◌<◌, ℕ, Some}
use Rattle.std.specs.Prelude.{slice_get}
use Rattle.delf_model.specs.declared.script.LaneCommand.{LaneCommand}
use Rattle.delf_service.specs.Lanes.{HasCommand}
use Rattle.delf_service.specs.Rows.{commands_at}
use Rattle.delf_service.proofs.numbered.are_numbered.Given as goal

abbrev pub invariant-loop-place : goal.invariant-loop-place
invariant-loop-place l = (k i : ℕ) (c : LaneCommand) → slice_get (commands_at l.lanes k) i ≡ Some c → k < l.place → HasCommand l.rules c
