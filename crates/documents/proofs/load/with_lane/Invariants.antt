use Rattle.std.proofs.Common.{◌≡◌, ◌++◌, map, take}
use Rattle.documents.specs.Loads.{made_alone}
use Rattle.documents.proofs.load.with_lane.Given as goal

abbrev pub invariant-loop-command : goal.invariant-loop-command
invariant-loop-command l = l.commands ≡ l.fn.commands ++ map made_alone (take l.command-index l.lane)
