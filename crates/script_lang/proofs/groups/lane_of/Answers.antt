use Rattle.script_lang.specs.Generated.{group_of, is_in_lane}
use Rattle.script_lang.proofs.GeneratedLemmas.{flat_map_kept}
use Rattle.script_lang.proofs.groups.lane_of.Goals as goal

pub loop-group-preserved : goal.loop-group-preserved
loop-group-preserved c =
    flat_map_kept group_of (is_in_lane c.args.lane) c.loop-group.group c.loop-group.commands c.push_in_lane.new.commands
    c.loop-group.invariant c.in_ok-push_in_lane.ensures
