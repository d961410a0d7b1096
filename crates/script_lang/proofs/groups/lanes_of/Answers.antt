use Rattle.script_lang.proofs.GeneratedLemmas.{lanes_more}
use Rattle.script_lang.proofs.groups.lanes_of.Goals as goal

pub loop-lane-preserved : goal.loop-lane-preserved
loop-lane-preserved c =
    lanes_more c.args.groups c.loop-lane.lane c.loop-lane.lanes c.push.new.self c.in_ok-lane_of.field-0
    c.loop-lane.invariant c.in_ok-lane_of.ensures c.in_ok-push.ensures.ok
