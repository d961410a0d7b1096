use Rattle.std.proofs.Common.{◌≡◌}
use Rattle.std.specs.List.{flat_map, filter, range_with_len}
use Rattle.script_lang.specs.Generated.{group_of, is_in_lane}
use Rattle.script_lang.proofs.groups.lane_of.Given as goal

abbrev pub invariant-loop-group : goal.invariant-loop-group
invariant-loop-group l = l.commands ≡ flat_map group_of (filter (is_in_lane l.lane) (range_with_len 0 l.group))
