use Rattle.delf_service.specs.Standings.{standing_in}
use Rattle.delf_service.proofs.Answering.{call_grows, call_made, call_seen}
use Rattle.delf_service.proofs.service.Service.submit.Goals as goal

pub with-requires-clause-leaves : goal.with-requires-clause-leaves
with-requires-clause-leaves g c = λ x r y next e.
    let v = c.args.seat.now.place.me.0 in
    let grows = call_grows (λ h. standing_in g.R.Disk h.book h.moment h.lanes) c.args.now c.number-number.result c.args.call.now r x y e.shown.now e.left.now e.shows e.leaves e.met
    v.seen.state v.number c.requires.moment next.later c.number-number.ensures in
    record { later = grows.0; only = grows.1 }

pub returns-clause-made : goal.returns-clause-made
returns-clause-made g c =
    let turn = c.with.ensures.turn in
    call_made (λ h. standing_in g.R.Disk h.book h.moment h.lanes) c.args.now c.number-number.result c.args.call.now c.with.result turn.0 turn.1 turn.5.shown.now turn.5.left.now turn.5.shows turn.5.leaves turn.5.met
    c.args.seat.now.place.me.0 c.with.new.seat.place.me.0 turn.2 turn.3 turn.4 c.number-number.ensures turn.6

pub returns-clause-call : goal.returns-clause-call
returns-clause-call g c =
    let turn = c.with.ensures.turn in
    call_seen (λ h. standing_in g.R.Disk h.book h.moment h.lanes) c.args.now c.number-number.result c.args.call.now c.with.result turn.0 turn.1 turn.5.shown.now turn.5.left.now turn.5.shows turn.5.leaves turn.5.met
    c.args.seat.now.place.me.0 c.with.new.seat.place.me.0 turn.2 turn.3 turn.4 c.number-number.ensures turn.6
