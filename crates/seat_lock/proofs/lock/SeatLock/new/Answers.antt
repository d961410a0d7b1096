use Rattle.std.proofs.Common.{replicate, sym, ap, ◌∙◌, subst, length}
use Rattle.seat_lock.specs.Boxes.{in_box}
use Rattle.seat_lock.specs.Promises.{NoneFrom}
use Rattle.seat_lock.proofs.Calls.{begins_of}
use Rattle.seat_lock.proofs.lock.SeatLock.new.Goals as goal

pub new-requires : goal.new-requires
new-requires g c =
    let t = g.V.Counted in
    let same = sym c.in_ok-boxed.ensures.ok in
    begins_of (in_box t.state) t.entries t.maker t.follows g.met.V.Counted.itself c.args.first c.in_ok-boxed.boxed (t.state c.of.result.value) c.count-count.result c.first_words.result (replicate 32 0) c.in_ok-slots.slots.items (ap t.state (c.of.ensures ∙ same))
    (c.count-count.ensures ∙ ap (λ (v : _). length (t.entries (t.state v))) same) c.first_words.ensures c.in_ok-slots.ensures.ok (subst (λ (v : _). NoneFrom t.maker c.args.first (t.entries (t.state v))) same c.requires) c.ranges.first.fits

pub slot_of-requires : goal.slot_of-requires
slot_of-requires g c = (c.in_ok-boxed.boxed, c.in-Err.ensures.err ∙ c.in_ok-slots.ensures.ok)
