use Rattle.std.proofs.Common.{arith}
use Rattle.seat_lock.proofs.Calls.{rings_at}
use Rattle.seat_lock.specs.Boxes.{in_box}
use Rattle.seat_lock.proofs.lock.SeatLock.ring.Goals as goal

pub fetch_add-requires : goal.fetch_add-requires
fetch_add-requires g c =
    let t = g.V.Counted in
    let table = c.args.self.now.table.shared in
    let words = c.args.self.now.sized.0 in
    (c.requires, omega arith, rings_at (in_box t.state) t.entries t.maker t.follows table.key.first (t.state table.key.start.value) table.table_id.slots c.args.place.now.id c.args.place.now.me c.bell_of-bell.result c.args.served c.bell_of-bell.ensures)
