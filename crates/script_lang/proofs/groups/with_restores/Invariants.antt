use Rattle.std.proofs.Common.{◌≡◌, ◌++◌, map}
use Rattle.std.specs.List.{filter, range_with_len}
use Rattle.script_lang.specs.Generated.{restored, is_in_lane}
use Rattle.script_lang.proofs.groups.with_restores.Given as goal

abbrev pub invariant-loop-group : goal.invariant-loop-group
invariant-loop-group l = l.script ≡ l.initial.script ++ map restored (filter (is_in_lane 0) (range_with_len 0 l.group))
