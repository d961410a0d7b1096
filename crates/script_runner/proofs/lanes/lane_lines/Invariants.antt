use Rattle.std.proofs.Common.{◌≡◌, take}
use Rattle.script_runner.specs.Blocks.{lane_lines}
use Rattle.script_runner.proofs.lanes.lane_lines.Given as goal

abbrev pub invariant-loop-place : goal.invariant-loop-place
invariant-loop-place l = l.text.items ≡ lane_lines l.schema l.lane l.commands (take l.place l.replies)
