use Rattle.seat_lock.specs.Locks.{view}
use Rattle.delf_service.specs.FollowLaws.{Follows-chain}
use Rattle.delf_service.proofs.Lanes.{told_stops}
use Rattle.delf_service.proofs.Seeing.{keeps_chain}
use Rattle.delf_service.proofs.Workers.{leaves_follow}
use Rattle.delf_service.proofs.service.Service.run_to_end.Goals as goal

pub returns-clause-later : goal.returns-clause-later
returns-clause-later g c =
    let w = (view c.run_lane-fed.new.seat).seen.state in
    let end = (view c.leave.new.seat).seen.state in
    Follows-chain end w (view c.args.seat.now).seen.state (leaves_follow w end c.leave.ensures.left) c.run_lane-fed.ensures.later

pub returns-clause-told : goal.returns-clause-told
returns-clause-told g c =
    let w = view c.run_lane-fed.new.seat in
    let end = view c.leave.new.seat in
    told_stops c.args.now (view c.args.seat.now).number c.args.commands.now w end c.run_lane-fed.new.replies.items c.run_lane-fed.ensures.told
    (leaves_follow w.seen.state end.seen.state c.leave.ensures.left) c.leave.ensures.keeps c.leave.ensures.same.1

pub returns-clause-keeps : goal.returns-clause-keeps
returns-clause-keeps g c = keeps_chain (view c.args.seat.now) (view c.run_lane-fed.new.seat) (view c.leave.new.seat) c.run_lane-fed.ensures.keeps c.leave.ensures.keeps

pub returns-clause-over : goal.returns-clause-over
returns-clause-over g c =
    let made = c.run_lane-fed.ensures.turns in
    (made.0, (view c.run_lane-fed.new.seat).seen.state, made.1, c.run_lane-fed.ensures.later, c.leave.ensures.left)
