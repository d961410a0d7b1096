use Rattle.std.proofs.Common.{sym, ◌∙◌}
use Rattle.std.proofs.lemmas.Result.{IfOk-weaker}
use Rattle.script_runner.specs.Worlds.{world_of}
use Rattle.script_runner.proofs.Calls.{on_err}
use Rattle.script_runner.proofs.Steps.{work_carried, work_halts, down_halts}
use Rattle.script_runner.proofs.script.work.Goals as goal

pub returns-then-is_down-clause-halts : goal.returns-then-is_down-clause-halts
returns-then-is_down-clause-halts g c = on_err c.down_refused.result (λ plain e stands.
    down_halts g.R.Disk.may_leave c.args.n c.args.book.now c.args.clock e c.len-len.ensures.legal stands)

pub returns-clause-serves : goal.returns-clause-serves
returns-clause-serves g c = IfOk-weaker c.work_line.result _ _ (λ text said plain schema e stands.
    work_carried g.R.Disk.may_leave g.R.Disk.faults schema c.args.n (world_of c.args.book.now c.args.clock e) (g.R.Disk.faults c.args.book.now.rig) c.make_steps.new.book
    c.args.clock c.in_ok-made.made c.in_ok-made.end text (sym c.is_down.ensures ∙ c.if-is_down.false) (c.in_ok-made.ensures.steps plain e stands) said) c.work_line.ensures

pub returns-clause-halts : goal.returns-clause-halts
returns-clause-halts g c = on_err c.work_line.result (λ plain e stands.
    work_halts g.R.Disk.may_leave g.R.Disk.faults c.args.n (world_of c.args.book.now c.args.clock e) (g.R.Disk.faults c.args.book.now.rig) c.make_steps.new.book
    c.args.clock c.in_ok-made.made c.in_ok-made.end (sym c.is_down.ensures ∙ c.if-is_down.false) c.in_ok-made.ensures.made c.len-after.ensures.legal (c.in_ok-made.ensures.steps plain e stands))
