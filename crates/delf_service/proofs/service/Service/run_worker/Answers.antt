use Rattle.std.proofs.Common.{◌+◌, refl, ◌∙◌, arith}
use Rattle.seat_lock.specs.Locks.{view}
use Rattle.delf_service.specs.FollowLaws.{Follows-itself, Follows-chain}
use Rattle.delf_service.specs.Workers.{Ends, GoesOn}
use Rattle.delf_service.proofs.Answering.{later_moment}
use Rattle.delf_service.proofs.Seeing.{keeps_itself, keeps_chain}
use Rattle.delf_service.proofs.Workers.{worked_follows, turn_of, goes_on, ends_here, more_turned, ended_at, all_turned}
use Rattle.delf_service.proofs.service.Service.run_worker.Goals as goal

pub loop-turn-init : goal.loop-turn-init
loop-turn-init g c = record {
  ours = c.requires.ours;
  same = (refl, refl, refl);
  made = refl;
  keeps = keeps_itself (view c.args.seat.now);
  later = Follows-itself (view c.args.seat.now).seen.state;
  turned = refl;
}

pub turn-outcome-requires-clause-moment : goal.turn-outcome-requires-clause-moment
turn-outcome-requires-clause-moment g c =
    later_moment (view c.loop-turn.seat).seen.state (view c.args.seat.now).seen.state c.args.now c.loop-turn.invariant.later c.requires.moment

pub loop-turn-preserved : goal.loop-turn-preserved
loop-turn-preserved g c =
    let at = c.loop-turn in
    let first = (view c.args.seat.now).seen.state in
    let v = view at.seat in
    let w = view c.turn-outcome.new.seat in
    let s = v.seen.state in
    let t = w.seen.state in
    let outcome = c.turn-outcome.result.0 in
    let lanes = c.turn-outcome.result.1 in
    let worked = c.turn-outcome.ensures.turn in
    let moment = later_moment s first c.args.now at.invariant.later c.requires.moment in
    let same = c.turn-outcome.ensures.same.0 in
    let was = at.invariant.same in
    record {
      ours = c.turn-outcome.ensures.ours;
      same = (same.0 ∙ was.0, same.1 ∙ was.1, same.2 ∙ was.2);
      made = c.turn-outcome.ensures.same.1 ∙ at.invariant.made;
      keeps = keeps_chain (view c.args.seat.now) v w at.invariant.keeps worked.turn.keeps;
      later = Follows-chain t s first (worked_follows c.args.now v w outcome moment worked) at.invariant.later;
      turned = more_turned c.args.now at._turn (at._turn + 1) first s t at.invariant.turned
          (turn_of c.args.now GoesOn v w outcome lanes worked c.turn-outcome.ensures.lanes (goes_on c.ends.result outcome lanes c.ends.ensures c.if-ends.false)) refl;
    }

pub returns-then-ends : goal.returns-then-ends
returns-then-ends g c =
    let at = c.loop-turn in
    let first = (view c.args.seat.now).seen.state in
    let v = view at.seat in
    let w = view c.turn-outcome.new.seat in
    let s = v.seen.state in
    let t = w.seen.state in
    let outcome = c.turn-outcome.result.0 in
    let lanes = c.turn-outcome.result.1 in
    let worked = c.turn-outcome.ensures.turn in
    let moment = later_moment s first c.args.now at.invariant.later c.requires.moment in
    let same = c.turn-outcome.ensures.same.0 in
    let was = at.invariant.same in
    record {
      ours = c.turn-outcome.ensures.ours;
      same = ((same.0 ∙ was.0, same.1 ∙ was.1, same.2 ∙ was.2), c.turn-outcome.ensures.same.1 ∙ at.invariant.made);
      keeps = keeps_chain (view c.args.seat.now) v w at.invariant.keeps worked.turn.keeps;
      later = Follows-chain t s first (worked_follows c.args.now v w outcome moment worked) at.invariant.later;
      done = ended_at c.args.now c.args.turns at._turn first s t (omega arith) at.invariant.turned
          (turn_of c.args.now Ends v w outcome lanes worked c.turn-outcome.ensures.lanes (ends_here c.ends.result outcome lanes c.ends.ensures c.if-ends.true));
    }

pub returns : goal.returns
returns g c =
    let at = c.loop-turn in
    record {
      ours = at.invariant.ours;
      same = (at.invariant.same, at.invariant.made);
      keeps = at.invariant.keeps;
      later = at.invariant.later;
      done = all_turned c.args.now c.args.turns at._turn (view c.args.seat.now).seen.state (view at.seat).seen.state (omega arith) at.invariant.turned;
    }
