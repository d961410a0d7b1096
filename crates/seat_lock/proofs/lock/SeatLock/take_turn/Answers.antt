use Rattle.std.proofs.Common.{◌∙◌, arith}
use Rattle.seat_lock.proofs.Steps.{draws}
use Rattle.seat_lock.proofs.Calls.{looks_at, hit_at, miss_at, hit_holds, hit_some, hit_next, hit_found, unboxed_next}
use Rattle.seat_lock.specs.Boxes.{in_box}
use Rattle.seat_lock.proofs.lock.SeatLock.take_turn.Goals as goal

pub fetch_add-ticket-requires : goal.fetch_add-ticket-requires
fetch_add-ticket-requires g c =
    let t = g.V.Counted in
    let table = c.args.self.now.table.shared in
    let words = c.args.self.now.sized.0 in
    (c.requires.ours, omega arith, draws (in_box t.state) t.entries t.maker t.follows table.key.first (t.state table.key.start.value) table.table_id.slots c.args.place.now.id c.args.place.now.me c.requires.idle.0 c.requires.idle.1)

pub load-served-requires : goal.load-served-requires
load-served-requires g c =
    let t = g.V.Counted in
    let table = c.args.self.now.table.shared in
    let words = c.args.self.now.sized.0 in
    let kept = c.loop.invariant in
    let place = c.loop.place in (
      kept.0 ∙ c.requires.ours,
      omega arith,
      looks_at (in_box t.state) t.entries t.maker t.follows table.key.first (t.state table.key.start.value) table.table_id.slots place.id place.me c.args.place.now.me.0 kept.2.0 kept.2.1 c.requires.idle.0,
    )

pub exchange-requires : goal.exchange-requires
exchange-requires g c =
    let t = g.V.Counted in
    let kept = c.loop.invariant in
    let seat = c.load-served.new.seat in
    let v = c.args.place.now.me.0 in
    let hit = hit_at (in_box t.state) t.entries t.maker t.follows c.loop.place.me seat.me v kept.2.0 c.load-served.result c.fetch_add-ticket.result kept.2.1 kept.2.2 c.if-served-ticket.true c.load-served.ensures.2 in
    (c.load-served.ensures.0 ∙ (kept.0 ∙ c.requires.ours), hit_holds (in_box t.state) t.entries t.maker t.follows v kept.2.0 seat.me hit)

pub unwrap-requires : goal.unwrap-requires
unwrap-requires g c =
    let t = g.V.Counted in
    let kept = c.loop.invariant in
    let seat = c.load-served.new.seat in
    let v = c.args.place.now.me.0 in
    let hit = hit_at (in_box t.state) t.entries t.maker t.follows c.loop.place.me seat.me v kept.2.0 c.load-served.result c.fetch_add-ticket.result kept.2.1 kept.2.2 c.if-served-ticket.true c.load-served.ensures.2 in
    hit_some (in_box t.state) t.entries t.maker t.follows v kept.2.0 seat.me c.exchange.result hit c.exchange.ensures.2

pub returns-then-served-ticket-clause-next : goal.returns-then-served-ticket-clause-next
returns-then-served-ticket-clause-next g c =
    let t = g.V.Counted in
    let kept = c.loop.invariant in
    let seat = c.load-served.new.seat in
    let v = c.args.place.now.me.0 in
    let hit = hit_at (in_box t.state) t.entries t.maker t.follows c.loop.place.me seat.me v kept.2.0 c.load-served.result c.fetch_add-ticket.result kept.2.1 kept.2.2 c.if-served-ticket.true c.load-served.ensures.2 in
    unboxed_next t.state t.entries t.maker t.follows v c.unwrap.result (hit_next (in_box t.state) t.entries t.maker t.follows v kept.2.0 seat.me c.exchange.result c.unwrap.result hit c.exchange.ensures.2 c.unwrap.ensures)

pub returns-then-served-ticket-clause-found : goal.returns-then-served-ticket-clause-found
returns-then-served-ticket-clause-found g c =
    let t = g.V.Counted in
    let kept = c.loop.invariant in
    let seat = c.load-served.new.seat in
    let v = c.args.place.now.me.0 in
    let hit = hit_at (in_box t.state) t.entries t.maker t.follows c.loop.place.me seat.me v kept.2.0 c.load-served.result c.fetch_add-ticket.result kept.2.1 kept.2.2 c.if-served-ticket.true c.load-served.ensures.2 in
    hit_found (in_box t.state) t.entries t.maker t.follows v kept.2.0 seat.me c.exchange.new.seat.me c.exchange.result c.unwrap.result hit c.exchange.ensures.2 c.unwrap.ensures c.exchange.ensures.3

pub loop-preserved : goal.loop-preserved
loop-preserved g c =
    let t = g.V.Counted in
    let kept = c.loop.invariant in
    let v = c.args.place.now.me.0 in (
      c.load-served.ensures.0 ∙ kept.0,
      c.load-served.ensures.1 ∙ kept.1,
      (
        kept.2.0,
        miss_at (in_box t.state) t.entries t.maker t.follows c.loop.place.me c.load-served.new.seat.me v kept.2.0 c.load-served.result c.fetch_add-ticket.result kept.2.1 kept.2.2 c.if-served-ticket.false c.load-served.ensures.2,
        kept.2.2,
      ),
    )
