use Rattle.std.proofs.Common.{◌≡◌, ◌<◌, ℕ, Some}
use Rattle.std.specs.Prelude.{slice_get}
use Rattle.delf_model.specs.declared.script.LaneCommand.{LaneCommand}
use Rattle.delf_service.specs.Lanes.{HasCommand}
use Rattle.delf_service.proofs.numbered.is_lane_numbered.Given as goal

abbrev pub invariant-loop-command : goal.invariant-loop-command
invariant-loop-command l = (i : ℕ) (c : LaneCommand) → slice_get l.commands i ≡ Some c → i < l.command-index → HasCommand l.rules c
