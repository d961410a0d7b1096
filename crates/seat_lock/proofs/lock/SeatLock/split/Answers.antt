use Rattle.std.proofs.Common.{arith}
use Rattle.seat_lock.proofs.Seats.{splits}
use Rattle.seat_lock.specs.Boxes.{in_box}
use Rattle.seat_lock.proofs.lock.SeatLock.split.Goals as goal

pub split_seat-place-requires : goal.split_seat-place-requires
split_seat-place-requires g c =
    let t = g.V.Counted in
    let table = c.args.self.now.table.shared in
    let words = c.args.self.now.sized.0 in
    let root = c.args.root.now in
    (c.requires.ours, omega arith, splits (in_box t.state) t.entries t.maker t.follows table.key.first (t.state table.key.start.value) root.place.id root.place.me.0 root.live c.requires.room.0 c.requires.room.1)
