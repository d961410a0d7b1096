use Rattle.seat_lock.specs.Locks.{view}
use Rattle.std.proofs.Common.{◌∙◌}
use Rattle.delf_service.proofs.Answering.{later_moment}
use Rattle.delf_service.proofs.Turns.{begun_over, begun_passed, passed_ends}
use Rattle.delf_service.proofs.service.Service.round.Goals as goal

pub end-requires-clause-moment : goal.end-requires-clause-moment
end-requires-clause-moment g c =
    let passed = begun_passed c.args.now (view c.args.seat.now) (view c.begin-began.new.seat) c.begin-began.result.0 c.in-Claimed.claim c.in-Claimed.is c.begin-began.ensures.turn in
    later_moment (view c.begin-began.new.seat).seen.state (view c.args.seat.now).seen.state c.args.now passed.0 c.requires.moment

pub returns-in-Claimed-clause-turn : goal.returns-in-Claimed-clause-turn
returns-in-Claimed-clause-turn g c =
    let passed = begun_passed c.args.now (view c.args.seat.now) (view c.begin-began.new.seat) c.begin-began.result.0 c.in-Claimed.claim c.in-Claimed.is c.begin-began.ensures.turn in
    passed_ends c.args.now (view c.args.seat.now) (view c.begin-began.new.seat) (view c.end.new.seat) c.end.result.0 passed c.end.ensures.turn

pub returns-in-Claimed-clause-same : goal.returns-in-Claimed-clause-same
returns-in-Claimed-clause-same g c =
    let was = c.begin-began.ensures.same in
    let is = c.end.ensures.same in
    ((is.0.0 ∙ was.0.0, is.0.1 ∙ was.0.1, is.0.2 ∙ was.0.2), is.1 ∙ was.1)

pub returns-in-Over-clause-turn : goal.returns-in-Over-clause-turn
returns-in-Over-clause-turn g c =
    begun_over c.args.now (view c.args.seat.now) (view c.begin-began.new.seat) c.begin-began.result.0 c.in-Over.outcome c.in-Over.is c.begin-began.ensures.turn
