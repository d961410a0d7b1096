use Rattle.std.proofs.Common.{sym, ◌∙◌}
use Rattle.std.proofs.lemmas.Result.{IfOk-weaker}
use Rattle.script_runner.specs.Serial.{graph_lines}
use Rattle.script_runner.proofs.Calls.{ok_is, on_err}
use Rattle.script_runner.proofs.Moves.{reads_out, reads_held}
use Rattle.script_runner.proofs.script.show.Goals as goal

pub returns-clause-serves : goal.returns-clause-serves
returns-clause-serves g c = IfOk-weaker c.told_or_down.result _ _ (λ text is plain.
    reads_out g.R.Disk.told g.R.Disk.honest g.R.Disk.may_leave g.R.Disk.order g.R.Disk.orders g.R.Disk.faults c.args.book.now c.graph_shown-told.new.book (λ w. graph_lines c.args.schema.now w) text c.graph_shown-told.result
    (sym c.is_down.ensures ∙ c.if-is_down.false) c.len-len.ensures.legal c.graph_shown-told.ensures.leaves (λ line ok. ok_is _ c.graph_shown-told.result line ok c.graph_shown-told.ensures.text) is plain) c.told_or_down.ensures

pub returns-clause-halts : goal.returns-clause-halts
returns-clause-halts g c = on_err c.told_or_down.result (λ plain.
    reads_held g.R.Disk.told g.R.Disk.honest g.R.Disk.may_leave g.R.Disk.order g.R.Disk.orders g.R.Disk.faults c.args.book.now c.graph_shown-told.new.book c.graph_shown-told.result
    (sym c.is_down.ensures ∙ c.if-is_down.false) c.len-len.ensures.legal c.graph_shown-told.ensures.leaves plain)
