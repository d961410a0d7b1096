use Rattle.std.proofs.Common.{◌∙◌}
use Rattle.std.proofs.lemmas.Result.{IfOk-weaker}
use Rattle.script_runner.proofs.Nameless.{listed_nameless}
use Rattle.script_runner.proofs.jobs.listed_row_line.Goals as goal

pub returns-in_ok-unprinted_name-in-Object : goal.returns-in_ok-unprinted_name-in-Object
returns-in_ok-unprinted_name-in-Object g c = IfOk-weaker c.listed_line-in-Object.result _ _
    (λ text said. said ∙ listed_nameless c.args.schema.now c.args.listed.now _ c.in-Object.job c.in-Object.row c.in-Object.is) c.listed_line-in-Object.ensures
