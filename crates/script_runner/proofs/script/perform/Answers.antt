use Rattle.std.proofs.Common.{refl, ◌∙◌}
use Rattle.script_runner.specs.Worlds.{world_of}
use Rattle.script_runner.proofs.Calls.{if_ok, ok_is, on_err}
use Rattle.script_runner.proofs.Standing.{halted_as, err_map, stands_held, tick_carries, fail_carries}
use Rattle.script_runner.proofs.script.perform.Goals as goal

pub returns-in-Tick-clause-serves : goal.returns-in-Tick-clause-serves
returns-in-Tick-clause-serves g c = λ plain e stands.
    tick_carries g.R.Disk.may_leave g.R.Disk.faults c.args.schema.now c.args.command.now c.in-Tick.n c.args.store.now.book c.tick.new.self.book c.args.store.now.clock
    c.tick.new.self.clock e c.from_vec.result c.in-Tick.is c.tick.ensures.book c.tick.ensures.clock (c.from_vec.ensures ∙ c.new.ensures.items) stands

pub returns-in-Fail-clause-serves : goal.returns-in-Fail-clause-serves
returns-in-Fail-clause-serves g c = λ plain e stands.
    fail_carries g.R.Disk.may_leave g.R.Disk.faults c.args.schema.now c.args.command.now c.in-Fail.n c.args.store.now.book c.fail_after.new.self c.args.store.now.clock
    e c.from_vec-in-Fail.result c.in-Fail.is c.fail_after.ensures.same c.fail_after.ensures.count (c.from_vec-in-Fail.ensures ∙ c.new-in-Fail.ensures.items)
    (c.fail_after.ensures.images plain).follows stands

pub returns-in-Get-clause-halts : goal.returns-in-Get-clause-halts
returns-in-Get-clause-halts g c = err_map c.get.result c.get.ensures.halts (λ held plain e stands.
    halted_as c.args.command.now _ (world_of c.args.store.now.book c.args.store.now.clock e) (g.R.Disk.may_leave c.get.new.book.rig) c.in-Get.is refl
    (held plain c.args.store.now.clock e stands))

pub returns-in-Show-clause-halts : goal.returns-in-Show-clause-halts
returns-in-Show-clause-halts g c = err_map c.show.result c.show.ensures.halts (λ held plain e stands.
    halted_as c.args.command.now _ (world_of c.args.store.now.book c.args.store.now.clock e) (g.R.Disk.may_leave c.show.new.book.rig) c.in-Show.is refl
    (held plain c.args.store.now.clock e stands))

pub returns-in-Report-clause-halts : goal.returns-in-Report-clause-halts
returns-in-Report-clause-halts g c = err_map c.report.result c.report.ensures.halts (λ held plain e stands.
    halted_as c.args.command.now _ (world_of c.args.store.now.book c.args.store.now.clock e) (g.R.Disk.may_leave c.report.new.book.rig) c.in-Report.is refl
    (held plain c.args.store.now.clock e stands))

pub returns-in-Job-clause-halts : goal.returns-in-Job-clause-halts
returns-in-Job-clause-halts g c = on_err c.job.result (λ plain e stands.
    halted_as c.args.command.now _ (world_of c.args.store.now.book c.args.store.now.clock e) (g.R.Disk.may_leave c.args.store.now.book.rig) c.in-Job.is refl
    (stands_held (world_of c.args.store.now.book c.args.store.now.clock e) (g.R.Disk.may_leave c.args.store.now.book.rig) c.len-len.ensures.legal stands))

pub returns-in-Jobs-clause-halts : goal.returns-in-Jobs-clause-halts
returns-in-Jobs-clause-halts g c = on_err c.jobs.result (λ plain e stands.
    halted_as c.args.command.now _ (world_of c.args.store.now.book c.args.store.now.clock e) (g.R.Disk.may_leave c.args.store.now.book.rig) c.in-Jobs.is refl
    (stands_held (world_of c.args.store.now.book c.args.store.now.clock e) (g.R.Disk.may_leave c.args.store.now.book.rig) c.len-len.ensures.legal stands))

pub returns-in-Submit-clause-settles : goal.returns-in-Submit-clause-settles
returns-in-Submit-clause-settles g c = if_ok _ c.submit.result (λ text is plain report. absurd (cc (c.in-Submit.is, report)))

pub returns-in-Work-clause-settles : goal.returns-in-Work-clause-settles
returns-in-Work-clause-settles g c = if_ok _ c.work.result (λ text is plain report. absurd (cc (c.in-Work.is, report)))

pub returns-in-Get-clause-settles : goal.returns-in-Get-clause-settles
returns-in-Get-clause-settles g c = if_ok _ c.get.result (λ text is plain report. absurd (cc (c.in-Get.is, report)))

pub returns-in-Show-clause-settles : goal.returns-in-Show-clause-settles
returns-in-Show-clause-settles g c = if_ok _ c.show.result (λ text is plain report. absurd (cc (c.in-Show.is, report)))

pub returns-in-Job-clause-settles : goal.returns-in-Job-clause-settles
returns-in-Job-clause-settles g c = if_ok _ c.job.result (λ text is plain report. absurd (cc (c.in-Job.is, report)))

pub returns-in-Jobs-clause-settles : goal.returns-in-Jobs-clause-settles
returns-in-Jobs-clause-settles g c = if_ok _ c.jobs.result (λ text is plain report. absurd (cc (c.in-Jobs.is, report)))

pub returns-in-Tick-clause-settles : goal.returns-in-Tick-clause-settles
returns-in-Tick-clause-settles g c = λ plain report. absurd (cc (c.in-Tick.is, report))

pub returns-in-Fail-clause-settles : goal.returns-in-Fail-clause-settles
returns-in-Fail-clause-settles g c = λ plain report. absurd (cc (c.in-Fail.is, report))

pub returns-in-Report-clause-settles : goal.returns-in-Report-clause-settles
returns-in-Report-clause-settles g c = if_ok _ c.report.result (λ text is plain report. ok_is _ c.report.result text is c.report.ensures.settles plain)
