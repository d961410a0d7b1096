use Rattle.std.proofs.Common.{sym, ◌∙◌}
use Rattle.std.proofs.lemmas.Result.{IfOk-weaker}
use Rattle.script_runner.specs.Serial.{report_line}
use Rattle.script_runner.specs.Worlds.{state_of}
use Rattle.script_runner.proofs.Calls.{if_ok, ok_is, on_err}
use Rattle.script_runner.proofs.Moves.{reads_out, reads_held, settles_said}
use Rattle.script_runner.proofs.script.report.Goals as goal

pub returns-clause-serves : goal.returns-clause-serves
returns-clause-serves g c = IfOk-weaker c.told_or_down.result _ _ (λ text is plain.
    reads_out g.R.Disk.told g.R.Disk.honest g.R.Disk.may_leave g.R.Disk.order g.R.Disk.orders g.R.Disk.faults c.args.book.now c.reported-told.new.book (λ w. report_line (state_of w)) text c.reported-told.result
    (sym c.is_down.ensures ∙ c.if-is_down.false) c.len-len.ensures.legal c.reported-told.ensures.leaves (λ line ok. ok_is _ c.reported-told.result line ok c.reported-told.ensures.text) is plain) c.told_or_down.ensures

pub returns-clause-halts : goal.returns-clause-halts
returns-clause-halts g c = on_err c.told_or_down.result (λ plain.
    reads_held g.R.Disk.told g.R.Disk.honest g.R.Disk.may_leave g.R.Disk.order g.R.Disk.orders g.R.Disk.faults c.args.book.now c.reported-told.new.book c.reported-told.result
    (sym c.is_down.ensures ∙ c.if-is_down.false) c.len-len.ensures.legal c.reported-told.ensures.leaves plain)

pub returns-then-is_down-clause-settles : goal.returns-then-is_down-clause-settles
returns-then-is_down-clause-settles g c = if_ok _ c.down_refused.result (λ text is plain up. absurd (cc (up, c.is_down.ensures, c.if-is_down.true)))

pub returns-clause-settles : goal.returns-clause-settles
returns-clause-settles g c = IfOk-weaker c.told_or_down.result _ _ (λ text said plain.
    settles_said g.R.Disk.told g.R.Disk.honest g.R.Disk.may_leave g.R.Disk.order g.R.Disk.orders g.R.Disk.faults c.args.book.now c.reported-told.new.book text c.reported-told.result
    c.reported-told.ensures.leaves c.reported-told.ensures.settles said plain) c.told_or_down.ensures
