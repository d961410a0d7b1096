use Rattle.script_runner.proofs.Calls.{accepted_carries, accepted_halts, refused_carries, refused_halts, refused_rules, refused_falls, refusal_named, if_ok, ok_is, on_err}
use Rattle.std.proofs.Common.{ℕ, ap, ◌∙◌}
use Rattle.job_report.specs.Texts.{refusal_text}
use Rattle.script_runner.specs.Lines.{refusal_name}
use Rattle.std.proofs.lemmas.Result.{IfOk-weaker}
use Rattle.delf_model.specs.Room.{moment_of}
use Rattle.delf_book.specs.Books.{state_in}
use Rattle.script_runner.proofs.answers.submit.Goals as goal

pub refused_line-requires : goal.refused_line-requires
refused_line-requires g c = refusal_named c.args.book.now c.call.new.self (moment_of (state_in c.args.book.now) c.args.clock) _ c.args.call.now c.in-Err.refusal
    c.len-len.ensures.legal c.requires.named.objects c.in-Err.ensures.answer

pub returns-in-Ok-clause-serves : goal.returns-in-Ok-clause-serves
returns-in-Ok-clause-serves g c = IfOk-weaker c.accepted_line.result _ _ (λ text said plain e stands.
    accepted_carries g.R.Disk.seen g.R.Disk.moment g.R.Disk.may_leave g.R.Disk.left_since g.R.Disk.faults c.args.schema.now c.args.call.now c.args.book.now c.call.new.self
    c.args.clock e c.in-Ok.receipt text
    (record { legal = c.len-len.ensures.legal; image = g.met.R.Disk.reads_as_image c.args.book.now.rig plain; holds = c.standing.ensures.holds plain })
    c.in-Ok.ensures.answer (c.in-Ok.ensures.crash plain) c.in-Ok.ensures.cause said stands) c.accepted_line.ensures

pub returns-in-Ok-clause-halts : goal.returns-in-Ok-clause-halts
returns-in-Ok-clause-halts g c = on_err c.accepted_line.result (λ plain e stands.
    accepted_halts g.R.Disk.seen g.R.Disk.moment g.R.Disk.may_leave g.R.Disk.left_since c.args.call.now c.args.book.now c.call.new.self
    c.args.clock e c.in-Ok.receipt
    (record { legal = c.len-len.ensures.legal; image = g.met.R.Disk.reads_as_image c.args.book.now.rig plain; holds = c.standing.ensures.holds plain })
    c.in-Ok.ensures.answer (c.in-Ok.ensures.crash plain) stands)

pub returns-in-Err : goal.returns-in-Err
returns-in-Err g c = record {
  rules = refused_rules c.args.book.now c.call.new.self (moment_of (state_in c.args.book.now) c.args.clock) c.args.call.now c.in-Err.refusal c.in-Err.ensures.answer;
  serves = if_ok _ c.refused_line.result (λ text is plain e stands.
      refused_carries g.R.Disk.seen g.R.Disk.moment g.R.Disk.may_leave g.R.Disk.left_since g.R.Disk.faults c.args.schema.now c.args.call.now c.args.book.now c.call.new.self
      c.args.clock e text c.in-Err.refusal
      (record { legal = c.len-len.ensures.legal; image = g.met.R.Disk.reads_as_image c.args.book.now.rig plain; holds = c.standing.ensures.holds plain })
      c.in-Err.ensures.answer (c.in-Err.ensures.crash plain) c.in-Err.ensures.cause
      (ok_is _ c.refused_line.result text is c.refused_line.ensures.other)
      (ok_is _ c.refused_line.result text is c.refused_line.ensures.text
      ∙ ap (λ (n : ℕ). refusal_text c.in-Err.refusal n (refusal_name c.args.schema.now c.in-Err.refusal)) c.len-len.ensures.value) stands);
  halts = on_err c.refused_line.result (λ plain e stands.
      refused_halts g.R.Disk.seen g.R.Disk.moment g.R.Disk.may_leave g.R.Disk.left_since c.args.call.now c.args.book.now c.call.new.self
      c.args.clock e c.in-Err.refusal
      (record { legal = c.len-len.ensures.legal; image = g.met.R.Disk.reads_as_image c.args.book.now.rig plain; holds = c.standing.ensures.holds plain })
      c.in-Err.ensures.answer (c.in-Err.ensures.crash plain) stands);
  kind = c.in-Err.ensures.kind;
  cause = refused_falls g.R.Disk.faults c.args.book.now c.call.new.self (moment_of (state_in c.args.book.now) c.args.clock) c.args.call.now c.in-Err.refusal
      c.in-Err.ensures.answer c.in-Err.ensures.cause;
}
