use Rattle.std.proofs.lemmas.Result.{IfOk-weaker}
use Rattle.script_runner.proofs.Moves.{line_text}
use Rattle.script_runner.proofs.Told.{edge_is}
use Rattle.script_runner.proofs.shows.edge_row_line.Goals as goal

pub returns-clause-text : goal.returns-clause-text
returns-clause-text g c = line_text _ c.edge_line.result c.line_or.result (IfOk-weaker c.edge_line.result _ _ (λ text said plain clock e rests.
    edge_is c.args.row.now text _ _ _ _ said c.edge_name-name.ensures (c.in_ok-size.ensures.bytes plain clock e rests)) c.edge_line.ensures) c.line_or.ensures.ok
