use Rattle.std.proofs.Common.{◌∙◌}
use Rattle.std.proofs.lemmas.Result.{IfOk-weaker}
use Rattle.script_runner.proofs.Nameless.{down_nameless}
use Rattle.script_runner.proofs.script.down_refused.Goals as goal

pub returns : goal.returns
returns c = IfOk-weaker c.refusal_line-2.result _ _ (λ text said. said ∙ down_nameless c.args.len _) c.refusal_line-2.ensures
