use Rattle.std.proofs.Common.{List, [], ◌∷◌, ◌++◌, length, sym, ap, ◌∙◌, append_assoc, arith}
use Rattle.std.specs.Vec.Iter.{into_iter_items}
use Rattle.delf_service.proofs.Blocks.{pushed_map, pushed_maps}
use Rattle.delf_service.proofs.block.part_rows.Goals as goal

pub loop-row-preserved : goal.loop-row-preserved
loop-row-preserved g c =
    let at = c.loop-row in
    let steps = c.in-Some.ensures.steps.0 in
    let gone = c.in-Some.ensures.steps.1 in
    let was = at.invariant.len in
    let short = ap (λ (l : List _). length l) steps in
    record {
      seats = pushed_map (λ row. row.seat) at.seats.items c.push_reserved.new.self.items at.yielded c.in-Some.row at.invariant.seats c.push_reserved.ensures.items;
      outs = pushed_maps (λ out. out.replies) (λ row. row.replies.items) at.outs.items c.push_reserved-in-loop-row.new.self.items at.yielded (record { replies = c.from_vec.result }) c.in-Some.row
          at.invariant.outs c.push_reserved-in-loop-row.ensures.items c.from_vec.ensures;
      seat_room = c.push_reserved.ensures.capacity ∙ at.invariant.seat_room;
      out_room = c.push_reserved-in-loop-row.ensures.capacity ∙ at.invariant.out_room;
      rest = append_assoc at.yielded (c.in-Some.row ∷ []) (into_iter_items c.next.new.self) ∙ (ap (λ (l : List _). at.yielded ++ l) (sym steps) ∙ at.invariant.rest);
      len = omega (arith, gone, was, short);
    }
