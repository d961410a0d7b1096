use Rattle.std.proofs.Common.{◌∙◌, ap, ◌++◌, map, arith}
use Rattle.documents.specs.Loads.{lane_alone, made_alone}
use Rattle.documents.proofs.Turns.{lists_grow, lists_all}
use Rattle.documents.proofs.load.with_lanes.Goals as goal

pub loop-lane-preserved : goal.loop-lane-preserved
loop-lane-preserved c =
    lists_grow lane_alone c.args.lanes.now c.loop-lane.lane-index c.lane-item.result c.args.commands c.loop-lane.commands c.in_ok-commands.commands (omega arith)
    c.lane-item.is c.loop-lane.invariant (c.in_ok-commands.ensures ∙ ap (λ xs. c.loop-lane.commands ++ map made_alone xs) c.as_slice.ensures)

pub returns : goal.returns
returns c = lists_all lane_alone c.args.lanes.now c.loop-lane.lane-index c.args.commands c.loop-lane.commands (omega arith) c.loop-lane.invariant
