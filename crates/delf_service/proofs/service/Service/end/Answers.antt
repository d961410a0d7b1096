use Rattle.delf_service.specs.Standings.{standing_in}
use Rattle.delf_service.proofs.Turns.{end_did, end_grows, end_seen, ends_all, none_made}
use Rattle.delf_service.proofs.service.Service.end.Goals as goal

pub with-requires-clause-leaves : goal.with-requires-clause-leaves
with-requires-clause-leaves g c = λ x r y next e.
    let v = c.args.seat.now.place.me.0 in
    let grows = end_grows (λ h. standing_in g.R.Disk h.book h.moment h.lanes) v.seen.state x y e.shown.now e.left.now e.shows e.leaves c.args.now v.number r.0 c.requires.moment next.later e.met.0 in
    record { later = grows.0; only = grows.1 }

pub returns-clause-turn : goal.returns-clause-turn
returns-clause-turn g c =
    let turn = c.with.ensures.turn in
    let v = c.args.seat.now.place.me.0 in
    end_seen (λ h. standing_in g.R.Disk h.book h.moment h.lanes) v c.with.new.seat.place.me.0 turn.0 turn.1 turn.2 turn.3 turn.4 turn.6 c.args.now c.with.result.0
    (end_did (λ h. standing_in g.R.Disk h.book h.moment h.lanes) v.seen.state turn.0 turn.1 turn.5.shown.now turn.5.left.now turn.5.shows turn.5.leaves c.args.now c.with.result.0 turn.5.met.0)

pub returns-clause-same : goal.returns-clause-same
returns-clause-same g c =
    let turn = c.with.ensures.turn in
    let v = c.args.seat.now.place.me.0 in
    let did = end_did (λ h. standing_in g.R.Disk h.book h.moment h.lanes) v.seen.state turn.0 turn.1 turn.5.shown.now turn.5.left.now turn.5.shows turn.5.leaves c.args.now c.with.result.0 turn.5.met.0 in
    none_made (λ h. standing_in g.R.Disk h.book h.moment h.lanes) v c.with.new.seat.place.me.0 turn.0 turn.1 turn.2 turn.3 turn.4 turn.6 (λ k. ends_all (standing_in g.R.Disk turn.0.book turn.0.moment turn.0.lanes) (standing_in g.R.Disk turn.1.book turn.1.moment turn.1.lanes) c.args.now c.with.result.0 did k)
