use Rattle.std.proofs.Common.{refl, ◌∙◌}
use Rattle.seat_lock.specs.Locks.{view}
use Rattle.delf_service.specs.FollowLaws.{Follows-itself}
use Rattle.delf_service.proofs.Answering.{later_moment}
use Rattle.delf_service.proofs.Seeing.{keeps_itself}
use Rattle.delf_service.proofs.Turns.{ended_none, ended_some, passed_worked}
use Rattle.delf_service.proofs.service.Service.step.Goals as goal

pub loop-round-init : goal.loop-round-init
loop-round-init g c = record {
  ours = c.requires.ours;
  same = (refl, refl, refl);
  made = refl;
  passed = (Follows-itself (view c.args.seat.now).seen.state, keeps_itself (view c.args.seat.now));
}

pub round-outcome-requires-clause-moment : goal.round-outcome-requires-clause-moment
round-outcome-requires-clause-moment g c =
    later_moment (view c.loop-round.seat).seen.state (view c.args.seat.now).seen.state c.args.now c.loop-round.invariant.passed.0 c.requires.moment

pub work_serially-requires-clause-moment : goal.work_serially-requires-clause-moment
work_serially-requires-clause-moment g c =
    later_moment (view c.loop-round.seat).seen.state (view c.args.seat.now).seen.state c.args.now c.loop-round.invariant.passed.0 c.requires.moment

pub returns-clause-turn : goal.returns-clause-turn
returns-clause-turn g c =
    passed_worked c.args.now (view c.args.seat.now) (view c.loop-round.seat) (view c.work_serially.new.seat) c.work_serially.result.0 c.loop-round.invariant.passed c.work_serially.ensures.turn

pub returns-clause-same : goal.returns-clause-same
returns-clause-same g c =
    let was = c.loop-round.invariant in
    let is = c.work_serially.ensures.same in
    ((is.0.0 ∙ was.same.0, is.0.1 ∙ was.same.1, is.0.2 ∙ was.same.2), is.1 ∙ was.made)

pub returns-in-Some-clause-turn : goal.returns-in-Some-clause-turn
returns-in-Some-clause-turn g c =
    ended_some c.args.now (view c.args.seat.now) (view c.loop-round.seat) (view c.round-outcome.new.seat) c.round-outcome.result.0 c.in-Some.outcome
    c.loop-round.invariant.passed c.in-Some.is c.round-outcome.ensures.turn

pub loop-round-preserved : goal.loop-round-preserved
loop-round-preserved g c =
    let was = c.loop-round.invariant in
    let is = c.round-outcome.ensures.same in
    record {
      ours = c.round-outcome.ensures.ours;
      same = (is.0.0 ∙ was.same.0, is.0.1 ∙ was.same.1, is.0.2 ∙ was.same.2);
      made = is.1 ∙ was.made;
      passed = ended_none c.args.now (view c.args.seat.now) (view c.loop-round.seat) (view c.round-outcome.new.seat) c.round-outcome.result.0
          was.passed c.in_default.not-Some c.round-outcome.ensures.turn;
    }
