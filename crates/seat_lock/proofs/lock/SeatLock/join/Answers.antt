use Rattle.std.proofs.Common.{◌≡◌, ◌∙◌, arith}
use Rattle.seat_lock.specs.Views.{joined_root}
use Rattle.seat_lock.proofs.Calls.{joins_of, learns_at, joined_seen}
use Rattle.seat_lock.specs.Boxes.{in_box}
use Rattle.seat_lock.proofs.lock.SeatLock.join.Goals as goal

pub join_seat-requires : goal.join_seat-requires
join_seat-requires g c =
    let t = g.V.Counted in
    let table = c.args.self.now.table.shared in
    let words = c.args.self.now.sized.0 in
    let root = c.args.root.now in
    let seat = c.args.seat in
    let other = c.into_place.result in
    let same : other ≡ seat.place = c.into_place.ensures in (
      c.requires.ours.0,
      rw same c.requires.ours.1,
      rw same seat.empty,
      omega arith,
      joins_of (in_box t.state) t.entries t.maker t.follows table.key.first (t.state table.key.start.value) root.place.id root.place.me.0 seat.place other t.blank same root.live root.idle c.requires.root seat.live seat.idle,
    )

pub load-requires : goal.load-requires
load-requires g c =
    let t = g.V.Counted in
    let table = c.args.self.now.table.shared in
    let words = c.args.self.now.sized.0 in
    let root = c.args.root.now in
    let place = c.join_seat.new.seat in (
      c.join_seat.ensures.0 ∙ c.requires.ours.0,
      omega arith,
      learns_at (in_box t.state) t.entries t.maker t.follows table.key.first (t.state table.key.start.value) table.table_id.slots place.id place.me (joined_root root.place.me.0 c.into_place.result.me.0) root.place.me.1 c.join_seat.ensures.2 root.live,
    )

pub invariant_of-root-clause-counted : goal.invariant_of-root-clause-counted
invariant_of-root-clause-counted g c =
    let t = g.V.Counted in
    let root = c.args.root.now in
    joined_seen (in_box t.state) t.entries t.maker t.follows g.met.V.Counted.grows root.place.me.0 c.into_place.result c.args.seat.place c.join_seat.new.seat.me c.load.new.seat.me root.place.me.1 root.seen c.args.seat.seen c.max-root.result
    c.into_place.ensures c.join_seat.ensures.2 c.load.ensures.2.0 c.load.ensures.2.1 root.counted c.args.seat.counted c.max-root.ensures
