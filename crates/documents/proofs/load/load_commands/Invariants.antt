use Rattle.std.proofs.Common.{◌≡◌, flat_map, take}
use Rattle.documents.specs.Loads.{made_in_turn}
use Rattle.documents.proofs.load.load_commands.Given as goal

abbrev pub invariant-loop-command : goal.invariant-loop-command
invariant-loop-command l = l.commands ≡ flat_map made_in_turn (take l.command-index l.script)
