use Rattle.std.proofs.Common.{refl}
use Rattle.std.proofs.lemmas.Result.{IfOk-weaker}
use Rattle.script_runner.proofs.Moves.{line_text}
use Rattle.script_runner.proofs.Told.{found_is}
use Rattle.script_runner.proofs.shows.found_row.Goals as goal

pub returns-clause-text : goal.returns-clause-text
returns-clause-text g c = line_text _ c.found_text.result c.line_or.result (IfOk-weaker c.found_text.result _ _ (λ text said plain clock e rests.
    found_is c.args.row.now text _ _ _ _ _ _ _ _ said c.len-len.ensures.value refl (c.in_ok-size.ensures.bytes plain clock e rests) c.owner-owner.ensures) c.found_text.ensures) c.line_or.ensures.ok
