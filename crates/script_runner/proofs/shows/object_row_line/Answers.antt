use Rattle.std.proofs.lemmas.Result.{IfOk-weaker}
use Rattle.script_runner.proofs.Moves.{line_text}
use Rattle.script_runner.proofs.Told.{object_is}
use Rattle.script_runner.proofs.shows.object_row_line.Goals as goal

pub returns-clause-text : goal.returns-clause-text
returns-clause-text g c = line_text _ c.object_line.result c.line_or.result (IfOk-weaker c.object_line.result _ _ (λ text said plain clock e rests.
    object_is c.args.row.now text _ _ _ _ _ _ said c.kind_name-name.ensures (c.in_ok-size.ensures.bytes plain clock e rests) c.owner-owner.ensures) c.object_line.ensures) c.line_or.ensures.ok
