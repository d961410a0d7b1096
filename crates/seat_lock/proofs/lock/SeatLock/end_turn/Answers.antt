use Rattle.std.proofs.Common.{◌^◌, ◌<◌, length, refl, ◌∙◌, arith}
use Rattle.seat_lock.specs.Views.{moment, leaves, made_by}
use Rattle.seat_lock.proofs.Calls.{handed, raises_at, passes_at, left_at}
use Rattle.seat_lock.specs.Boxes.{in_box}
use Rattle.seat_lock.proofs.lock.SeatLock.end_turn.Goals as goal

pub fetch_add-requires : goal.fetch_add-requires
fetch_add-requires g c =
    let t = g.V.Counted in
    let table = c.args.self.now.table.shared in
    let words = c.args.self.now.sized.0 in
    let old = c.args.place.now.me in
    let turn = c.requires.turn in
    let seat = c.exchange-empty.new.seat in
    let fits : length (t.entries (t.state c.args.value.value)) < 2 ^ 64 = (let h = c.requires.fits in omega arith) in (
      c.exchange-empty.ensures.0 ∙ c.requires.ours,
      omega arith,
      raises_at (in_box t.state) t.entries t.maker t.follows table.key.first (t.state table.key.start.value) g.met.V.Counted.itself g.met.V.Counted.chain table.table_id.slots seat.id seat.me old.0 turn.1.0 c.args.value c.args.more
          (handed (in_box t.state) t.entries t.maker t.follows old seat.me c.args.value turn.2 c.exchange-empty.ensures.3) turn.0 turn.1.1 c.requires.later c.requires.only c.requires.count fits,
    )

pub fetch_add-served-requires : goal.fetch_add-served-requires
fetch_add-served-requires g c =
    let t = g.V.Counted in
    let table = c.args.self.now.table.shared in
    let words = c.args.self.now.sized.0 in
    let old = c.args.place.now.me in
    let turn = c.requires.turn in
    let seat = c.exchange-empty.new.seat in
    let next = c.fetch_add.new.seat in
    let left = left_at (in_box t.state) t.entries t.maker t.follows seat.me next.me old.0 c.args.value c.fetch_add.result
    (handed (in_box t.state) t.entries t.maker t.follows old seat.me c.args.value turn.2 c.exchange-empty.ensures.3) c.fetch_add.ensures.2 in (
      c.fetch_add.ensures.0 ∙ (c.exchange-empty.ensures.0 ∙ c.requires.ours),
      omega arith,
      passes_at (in_box t.state) t.entries t.maker t.follows table.key.first (t.state table.key.start.value) table.table_id.slots next.id next.me
          (leaves old.0 (moment left.0 (t.state c.args.value.value)) (made_by t.maker old.0.number (t.entries (t.state c.args.value.value)))) turn.1.0 c.args.value left.1 turn.0 turn.1.1 refl,
    )
