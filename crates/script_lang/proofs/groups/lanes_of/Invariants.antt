use Rattle.std.proofs.Common.{◌≡◌, map}
use Rattle.std.specs.List.{range_with_len}
use Rattle.script_lang.specs.Generated.{lane_of}
use Rattle.script_lang.proofs.groups.lanes_of.Given as goal

abbrev pub invariant-loop-lane : goal.invariant-loop-lane
invariant-loop-lane l = l.lanes ≡ map (lane_of l.groups) (range_with_len 0 l.lane)
