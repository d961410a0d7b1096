use Rattle.std.proofs.Common.{sym, subst, ◌+◌, ◌≤◌, length, arith}
use Rattle.std.specs.Slots.{slots_items}
use Rattle.seat_lock.proofs.Calls.{closes_of, closed_value, closed_some, unboxed_closes}
use Rattle.seat_lock.specs.Promises.{Closes}
use Rattle.seat_lock.specs.Boxes.{in_box}
use Rattle.seat_lock.proofs.lock.SeatLock.close.Goals as goal

pub unwrap-requires : goal.unwrap-requires
unwrap-requires g c =
    let t = g.V.Counted in
    let table = c.args.self.table.shared in
    let root = c.args.root in
    let closed = c.close_with-closed.result in
    let tally : root.place.me.0.number + 1 + length root.place.me.0.joined ≤ root.place.me.0.next = (let a = root.numbered in let b = root.joined_is in let n = root.next_is in let r = c.requires.root in let h = root.tally (omega arith) in omega arith) in
    closed_some (in_box t.state) t.entries t.maker t.follows (t.state table.key.start.value) root.place.me.0 (slots_items closed.slots) c.take-value.result
    (closes_of (in_box t.state) t.entries t.maker t.follows table.key.first (t.state table.key.start.value) root.place c.into_place.result (slots_items closed.words) (slots_items closed.slots) c.into_place.ensures root.live root.idle c.requires.root tally c.requires.alone c.close_with-closed.ensures.values.2)
    c.take-value.ensures.value

pub returns : goal.returns
returns g c =
    let t = g.V.Counted in
    let table = c.args.self.table.shared in
    let root = c.args.root in
    let closed = c.close_with-closed.result in
    let tally : root.place.me.0.number + 1 + length root.place.me.0.joined ≤ root.place.me.0.next = (let a = root.numbered in let b = root.joined_is in let n = root.next_is in let r = c.requires.root in let h = root.tally (omega arith) in omega arith) in
    let boxed = closed_value (in_box t.state) t.entries t.maker t.follows (t.state table.key.start.value) root.place.me.0 (slots_items closed.slots) c.take-value.result c.unwrap.result
    (closes_of (in_box t.state) t.entries t.maker t.follows table.key.first (t.state table.key.start.value) root.place c.into_place.result (slots_items closed.words) (slots_items closed.slots) c.into_place.ensures root.live root.idle c.requires.root tally c.requires.alone c.close_with-closed.ensures.values.2)
    c.take-value.ensures.value c.unwrap.ensures in
    subst (λ (v : _). Closes t.state t.entries t.maker t.follows (t.state table.key.start.value) root.place.me.0 v) (sym c.into_inner.ensures)
    (unboxed_closes t.state t.entries t.maker t.follows (t.state table.key.start.value) root.place.me.0 c.unwrap.result boxed)
