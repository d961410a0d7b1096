use Rattle.std.proofs.Common.{refl}
use Rattle.std.specs.Fn.{FnOnceReturnsAtMut}
use Rattle.seat_lock.proofs.Calls.{grown_later, grown_only, grown_count, grown_sum, turn_view}
use Rattle.seat_lock.proofs.lock.SeatLock.with.Goals as goal

pub overflow_sub-after : goal.overflow_sub-after
overflow_sub-after g c =
    let t = g.V.Counted in
    let gave : FnOnceReturnsAtMut g.F.FnOnce c.args.f c.take_turn-value.result.value c.f-outcome.result c.f-outcome.new.arg2 = record { shown = c.as_mut.result; shows = c.as_mut.ensures.value; left = _; met = c.f-outcome.ensures; leaves = refl } in
    let grown = c.requires.leaves c.take_turn-value.result.value c.f-outcome.result c.f-outcome.new.arg2 c.take_turn-value.ensures.next gave in
    grown_count t.state t.entries t.maker t.follows g.met.V.Counted.grows _ c.count_of-before.result c.count_of-after.result c.take_turn-value.result.value c.f-outcome.new.arg2 grown c.count_of-before.ensures c.count_of-after.ensures

pub end_turn-requires-clause-later : goal.end_turn-requires-clause-later
end_turn-requires-clause-later g c =
    let t = g.V.Counted in
    let found = c.take_turn-value.ensures.found in
    let v = c.args.seat.now.place.me.0 in
    let gave : FnOnceReturnsAtMut g.F.FnOnce c.args.f c.take_turn-value.result.value c.f-outcome.result c.f-outcome.new.arg2 = record { shown = c.as_mut.result; shows = c.as_mut.ensures.value; left = _; met = c.f-outcome.ensures; leaves = refl } in
    let grown = c.requires.leaves c.take_turn-value.result.value c.f-outcome.result c.f-outcome.new.arg2 c.take_turn-value.ensures.next gave in
    grown_later t.state t.entries t.maker t.follows c.take_turn-value.new.place.me v found.0 found.1 v.number c.take_turn-value.result.value c.f-outcome.new.arg2 _ found.2 grown

pub end_turn-requires-clause-only : goal.end_turn-requires-clause-only
end_turn-requires-clause-only g c =
    let t = g.V.Counted in
    let found = c.take_turn-value.ensures.found in
    let v = c.args.seat.now.place.me.0 in
    let gave : FnOnceReturnsAtMut g.F.FnOnce c.args.f c.take_turn-value.result.value c.f-outcome.result c.f-outcome.new.arg2 = record { shown = c.as_mut.result; shows = c.as_mut.ensures.value; left = _; met = c.f-outcome.ensures; leaves = refl } in
    let grown = c.requires.leaves c.take_turn-value.result.value c.f-outcome.result c.f-outcome.new.arg2 c.take_turn-value.ensures.next gave in
    grown_only t.state t.entries t.maker t.follows c.take_turn-value.new.place.me v found.0 found.1 c.take_turn-value.result.value c.f-outcome.new.arg2 _ found.2 grown

pub end_turn-requires-clause-count : goal.end_turn-requires-clause-count
end_turn-requires-clause-count g c =
    let t = g.V.Counted in
    let found = c.take_turn-value.ensures.found in
    let v = c.args.seat.now.place.me.0 in
    let gave : FnOnceReturnsAtMut g.F.FnOnce c.args.f c.take_turn-value.result.value c.f-outcome.result c.f-outcome.new.arg2 = record { shown = c.as_mut.result; shows = c.as_mut.ensures.value; left = _; met = c.f-outcome.ensures; leaves = refl } in
    let grown = c.requires.leaves c.take_turn-value.result.value c.f-outcome.result c.f-outcome.new.arg2 c.take_turn-value.ensures.next gave in
    grown_sum t.state t.entries t.maker t.follows c.take_turn-value.new.place.me v found.0 found.1 c.count_of-before.result c.count_of-after.result c.take_turn-value.result.value c.f-outcome.new.arg2 _ found.2 c.count_of-before.ensures c.count_of-after.ensures
    (grown_count t.state t.entries t.maker t.follows g.met.V.Counted.grows v.number c.count_of-before.result c.count_of-after.result c.take_turn-value.result.value c.f-outcome.new.arg2 grown c.count_of-before.ensures c.count_of-after.ensures)

pub returns-clause-turn : goal.returns-clause-turn
returns-clause-turn g c =
    let t = g.V.Counted in
    let found = c.take_turn-value.ensures.found in
    let left = c.end_turn.ensures.left in
    let v = c.args.seat.now.place.me.0 in
    let gave : FnOnceReturnsAtMut g.F.FnOnce c.args.f c.take_turn-value.result.value c.f-outcome.result c.f-outcome.new.arg2 = record { shown = c.as_mut.result; shows = c.as_mut.ensures.value; left = _; met = c.f-outcome.ensures; leaves = refl } in (
      c.take_turn-value.result.value,
      c.f-outcome.new.arg2,
      found.1,
      left.0,
      c.take_turn-value.ensures.next,
      gave,
      turn_view t.state t.entries t.maker t.follows c.take_turn-value.new.place.me c.end_turn.new.place.me v found.0 found.1 left.0 c.take_turn-value.result.value c.f-outcome.new.arg2 _ _ c.args.seat.now.idle found.2 left.1,
    )
