use Rattle.std.proofs.Common.{◌≡◌, take}
use Rattle.script_runner.specs.Blocks.{lanes_lines}
use Rattle.script_runner.proofs.lanes.lanes_lines.Given as goal

abbrev pub invariant-loop-place : goal.invariant-loop-place
invariant-loop-place l = l.text.items ≡ lanes_lines l.schema 0 l.lanes (take l.place l.outs)
