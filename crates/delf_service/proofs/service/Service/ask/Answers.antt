use Rattle.std.proofs.Common.{◌≡◌, ℕ, ◌++◌, List, length, drop, ap, arith}
use Rattle.std.proofs.lemmas.List.{length-take}
use Rattle.delf_service.specs.Standings.{standing_in}
use Rattle.delf_service.proofs.Turns.{ask_did, ask_grows, ask_seen}
use Rattle.delf_service.proofs.service.Service.ask.Goals as goal

pub copy_from_slice-requires : goal.copy_from_slice-requires
copy_from_slice-requires g c =
    let size : length c.with-asked.result.1 ≡ 512 = c.with-asked.ensures.turn.5.met.1 in
    let room = c.requires.room in
    let short = length-take 512 c.args.buf.now in
    omega (arith, size, room, short)

pub with-asked-requires-clause-leaves : goal.with-asked-requires-clause-leaves
with-asked-requires-clause-leaves g c = λ x r y next e.
    let v = c.args.seat.now.place.me.0 in
    let grows = ask_grows (λ h. standing_in g.R.Disk h.book h.moment h.lanes) v.seen.state x y e.shown.now e.left.now e.shows e.leaves c.args.id v.number r.1 r.0 e.met.0 in
    record { later = grows.0; only = grows.1 }

pub returns-clause-asked : goal.returns-clause-asked
returns-clause-asked g c =
    let turn = c.with-asked.ensures.turn in
    let v = c.args.seat.now.place.me.0 in
    let size : length c.with-asked.result.1 ≡ 512 = turn.5.met.1 in
    ask_seen (λ h. standing_in g.R.Disk h.book h.moment h.lanes) v c.with-asked.new.seat.place.me.0 turn.0 turn.1 turn.2 turn.3 turn.4 turn.6 c.args.id c.with-asked.result.1
    (c.copy_from_slice.new.self ++ drop 512 c.args.buf.now) c.with-asked.result.0
    (ask_did (λ h. standing_in g.R.Disk h.book h.moment h.lanes) v.seen.state turn.0 turn.1 turn.5.shown.now turn.5.left.now turn.5.shows turn.5.leaves c.args.id c.with-asked.result.1 c.with-asked.result.0 turn.5.met.0)
    (drop 512 c.args.buf.now) size (ap (λ (l : List ℕ). l ++ drop 512 c.args.buf.now) c.copy_from_slice.ensures.after)
