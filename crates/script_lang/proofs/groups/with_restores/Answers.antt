use Rattle.script_lang.specs.Generated.{restored, is_in_lane}
use Rattle.script_lang.proofs.GeneratedLemmas.{map_kept}
use Rattle.script_lang.proofs.groups.with_restores.Goals as goal

pub loop-group-preserved : goal.loop-group-preserved
loop-group-preserved c =
    map_kept restored (is_in_lane 0) c.loop-group.group c.args.script c.loop-group.script c.push_restore.new.script
    c.loop-group.invariant c.in_ok-push_restore.ensures
