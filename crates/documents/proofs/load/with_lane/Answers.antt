use Rattle.std.proofs.Common.{◌∙◌, ap, ◌++◌, ◌∷◌, [], arith}
use Rattle.documents.specs.Loads.{made_alone}
use Rattle.documents.proofs.Turns.{elements_grow, elements_all}
use Rattle.documents.proofs.load.with_lane.Goals as goal

pub loop-command-preserved : goal.loop-command-preserved
loop-command-preserved c =
    elements_grow made_alone c.args.lane.now c.loop-command.command-index c.command-item.result c.args.commands c.loop-command.commands c.push.new.self (omega arith)
    c.command-item.is c.loop-command.invariant (c.in_ok-push.ensures.ok ∙ ap (λ x. c.loop-command.commands ++ x ∷ []) c.in_ok-alone.ensures)

pub returns : goal.returns
returns c = elements_all made_alone c.args.lane.now c.loop-command.command-index c.args.commands c.loop-command.commands (omega arith) c.loop-command.invariant
