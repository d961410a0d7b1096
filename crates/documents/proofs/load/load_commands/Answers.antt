use Rattle.std.proofs.Common.{[], arith}
use Rattle.documents.specs.Loads.{made_in_turn}
use Rattle.documents.proofs.Turns.{lists_grow, lists_all}
use Rattle.documents.proofs.load.load_commands.Goals as goal

pub loop-command-preserved : goal.loop-command-preserved
loop-command-preserved c =
    lists_grow made_in_turn c.args.script.now c.loop-command.command-index c.command-item.result [] c.loop-command.commands c.in_ok-commands.commands (omega arith)
    c.command-item.is c.loop-command.invariant c.in_ok-commands.ensures

pub returns : goal.returns
returns c = lists_all made_in_turn c.args.script.now c.loop-command.command-index [] c.loop-command.commands (omega arith) c.loop-command.invariant
