use Rattle.delf_service.specs.Standings.{standing_in}
use Rattle.delf_service.proofs.Turns.{had}
use Rattle.delf_service.proofs.Workers.{leave_grows}
use Rattle.delf_service.proofs.service.Service.leave.Goals as goal

pub with-requires-clause-leaves : goal.with-requires-clause-leaves
with-requires-clause-leaves g c = λ x r y next e.
    let v = c.args.seat.now.place.me.0 in
    let grows = leave_grows (λ h. standing_in g.R.Disk h.book h.moment h.lanes) x y e.shown.now e.left.now e.shows e.leaves e.met v.number in
    record { later = grows.0; only = grows.1 }

pub returns-clause-keeps : goal.returns-clause-keeps
returns-clause-keeps g c =
    let turn = c.with.ensures.turn in
    (had (λ h. standing_in g.R.Disk h.book h.moment h.lanes) c.args.seat.now.place.me.0 c.with.new.seat.place.me.0 turn.0 turn.1 turn.2 turn.3 turn.4 turn.6).keeps
