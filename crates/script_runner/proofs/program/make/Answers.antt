use Rattle.script_runner.specs.Worlds.{world_of}
use Rattle.script_runner.proofs.Calls.{if_ok, ok_is, if_err, err_is, err_of}
use Rattle.script_runner.proofs.Crashes.{crash_halts}
use Rattle.script_runner.proofs.Openings.{counts_stop}
use Rattle.script_runner.proofs.LoadSteps.{open_unless}
use Rattle.script_runner.proofs.program.make.Goals as goal

pub serve-store-requires : goal.serve-store-requires
serve-store-requires g c = record {
  named = c.requires.named;
  numbered = c.requires.numbered;
  «open» = open_unless c.args.command.now c.in_default.not-Crash;
  unclaimed = c.requires.unclaimed;
  lanes = c.requires.lanes;
  ready = c.requires.ready;
}

pub returns-in-Ok-clause-serves : goal.returns-in-Ok-clause-serves
returns-in-Ok-clause-serves g c = if_ok _ c.opened.result (λ it is plain e stands.
    rw (ok_is _ c.opened.result it is c.opened.ensures.same) (rw (ok_is _ c.opened.result it is c.opened.ensures.text)
    (rw c.in-Crash.is (c.in-Ok.ensures.serves plain e stands))))

pub returns-in-Ok-clause-stops : goal.returns-in-Ok-clause-stops
returns-in-Ok-clause-stops g c = if_err _ c.opened.result (λ it is plain e.
    rw (err_is _ c.opened.result it is c.opened.ensures.fault) (rw (err_is _ c.opened.result it is c.opened.ensures.rig)
    (rw c.in-Crash.is (λ stands. crash_halts g.R.Disk.may_leave g.R.Disk.faults c.args.schema.now c.in-Crash.pick (g.R.Disk.faults c.args.store.book.rig)
    (world_of c.args.store.book c.args.store.clock e) c.in-Ok.store.book c.in-Ok.store.clock _ c.len-len.ensures.legal (c.in-Ok.ensures.serves plain e stands)))))

pub returns-in-Err-clause-stops : goal.returns-in-Err-clause-stops
returns-in-Err-clause-stops g c = λ plain e. rw c.in-Crash.is (c.in-Err.ensures.stops plain e)

pub returns-in-Err-clause-err_count : goal.returns-in-Err-clause-err_count
returns-in-Err-clause-err_count g c =
    counts_stop (g.R.Disk.faults c.args.store.book.rig) (g.R.Disk.faults c.in-Err.fault.1) c.in-Err.fault.0 c.in-Err.ensures.err_count

pub returns-in-Err-lines-clause-stops : goal.returns-in-Err-lines-clause-stops
returns-in-Err-lines-clause-stops g c = λ plain e. rw c.starved.ensures.rig (rw c.starved.ensures.fault (err_of c.serve-store.result.1 _ c.in-Err-lines.is c.serve-store.ensures.halts plain e))

pub returns-in-Err-lines-clause-err_count : goal.returns-in-Err-lines-clause-err_count
returns-in-Err-lines-clause-err_count g c =
    rw c.starved.ensures.rig (rw c.starved.ensures.fault (record { later = c.serve-store.ensures.cause.later; failed = λ is. absurd (cc is) }))

pub returns-in-Ok-lines : goal.returns-in-Ok-lines
returns-in-Ok-lines g c = record {
  same_rules = c.serve-store.ensures.rules;
  serves = ok_is _ c.serve-store.result.1 c.in-Ok-lines.lines c.in-Ok-lines.is c.serve-store.ensures.serves;
  settles = ok_is _ c.serve-store.result.1 c.in-Ok-lines.lines c.in-Ok-lines.is c.serve-store.ensures.settles;
  stops = tt;
  ok_telling = c.serve-store.ensures.telling;
  err_telling = tt;
  ok_orders = c.serve-store.ensures.orders;
  err_orders = tt;
  ok_count = c.serve-store.ensures.cause;
  err_count = tt;
}

pub returns-in-Ok-clause-settles : goal.returns-in-Ok-clause-settles
returns-in-Ok-clause-settles g c = if_ok _ c.opened.result (λ it is plain report. absurd (cc (c.in-Crash.is, report)))
