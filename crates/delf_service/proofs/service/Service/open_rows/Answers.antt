use Rattle.std.proofs.Common.{List, [], ◌∷◌, ◌++◌, length, sym, ap, ◌∙◌, append_assoc, false, arith, length-append}
use Rattle.std.proofs.lemmas.List.{length-map}
use Rattle.std.specs.Vec.Iter.{into_iter_items}
use Rattle.seat_lock.specs.Locks.{view, IsOf}
use Rattle.delf_service.proofs.Blocks.{mapped_push, next_root, opened_more}
use Rattle.delf_service.proofs.service.Service.open_rows.Goals as goal

pub loop-replies-preserved : goal.loop-replies-preserved
loop-replies-preserved g c =
    let at = c.loop-replies in
    let steps = c.in-Some.ensures.steps.0 in
    let gone = c.in-Some.ensures.steps.1 in
    let was = at.invariant.len in
    let short = ap (λ (l : List _). length l) steps in
    let root = c.in-Ok.ensures.root in
    let seat = c.in-Ok.ensures.seat in
    let count = sym (length-map at.rows.items (λ row. row.replies)) ∙ ap (λ (l : List _). length l) at.invariant.lists in
    record {
      ours = root.0;
      root = next_root (view c.args.root.now) (view at.root) (view c.open_seat.new.root) (length at.yielded) (length (at.yielded ++ c.in-Some.replies ∷ [])) at.invariant.root root.1 (length-append at.yielded (c.in-Some.replies ∷ []));
      lists = mapped_push (λ row. row.replies) at.rows.items c.push_reserved.new.self.items at.yielded (record { seat = c.in-Ok.seat; replies = c.in-Some.replies; starved = false }) at.invariant.lists c.push_reserved.ensures.items;
      room = c.push_reserved.ensures.capacity ∙ at.invariant.room;
      each = opened_more (λ row. view row.seat) (λ row. IsOf c.args.self.now.lock row.seat) (view c.args.root.now) (view at.root) at.rows.items c.push_reserved.new.self.items (record { seat = c.in-Ok.seat; replies = c.in-Some.replies; starved = false }) (length at.yielded)
          count at.invariant.root at.invariant.each c.push_reserved.ensures.items seat.0 seat.1;
      rest = append_assoc at.yielded (c.in-Some.replies ∷ []) (into_iter_items c.next.new.self) ∙ (ap (λ (l : List _). at.yielded ++ l) (sym steps) ∙ at.invariant.rest);
      len = omega (arith, gone, was, short);
    }
