use Rattle.std.proofs.Common.{◌≡◌, ◌++◌, flat_map, take}
use Rattle.documents.specs.Loads.{lane_alone}
use Rattle.documents.proofs.load.with_lanes.Given as goal

abbrev pub invariant-loop-lane : goal.invariant-loop-lane
invariant-loop-lane l = l.commands ≡ l.fn.commands ++ flat_map lane_alone (take l.lane-index l.lanes)
