use Rattle.std.proofs.Common.{◌∙◌}
use Rattle.std.proofs.lemmas.Result.{IfOk-weaker}
use Rattle.script_runner.proofs.Calls.{if_ok}
use Rattle.script_runner.proofs.Nameless.{refusal_nameless}
use Rattle.script_runner.proofs.answers.refused_line.Goals as goal

pub returns-in_ok-unprinted_name-in_default-clause-text : goal.returns-in_ok-unprinted_name-in_default-clause-text
returns-in_ok-unprinted_name-in_default-clause-text c = IfOk-weaker c.refusal_line-in_default-2.result _ _
    (λ text said. said ∙ refusal_nameless c.args.schema.now c.args.refusal.now c.args.len _ c.in_default.not-WrongEnd) c.refusal_line-in_default-2.ensures

pub returns-in_ok-unprinted_name-in_default-clause-other : goal.returns-in_ok-unprinted_name-in_default-clause-other
returns-in_ok-unprinted_name-in_default-clause-other c = if_ok _ c.refusal_line-in_default-2.result (λ text is. c.in_default.not-OutOfMemory)
