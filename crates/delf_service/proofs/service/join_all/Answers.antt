use Rattle.std.proofs.Common.{rules, List, [], ◌∷◌, ◌++◌, length, refl, sym, ap, ◌∙◌, append_assoc, arith}
use Rattle.std.specs.Vec.Iter.{into_iter_items}
use Rattle.seat_lock.specs.Locks.{view}
use Rattle.delf_service.proofs.Joining.{join_none, join_more, next_there}
use Rattle.delf_service.proofs.service.join_all.Goals as goal

pub loop-seat-init : goal.loop-seat-init
loop-seat-init g c = record {
  ours = c.requires.ours;
  joined = join_none (view c.args.root);
  rest = refl;
  len = let gives = c.into_iter-seat-iterator.ensures.into_iter_gives in search rules;
}

pub join-requires-clause-ours : goal.join-requires-clause-ours
join-requires-clause-ours g c =
    let at = c.loop-seat in
    let steps = c.in-Some.ensures.steps.0 in
    let gives = c.into_iter-seat-iterator.ensures.into_iter_gives.0 in (
      at.invariant.ours,
      c.requires.each (length at.yielded) c.in-Some.seat
          (next_there at.yielded (into_iter_items c.next.new.self) c.args.seats.items c.in-Some.seat (ap (λ (l : List _). at.yielded ++ l) (sym steps) ∙ (at.invariant.rest ∙ gives))),
    )

pub loop-seat-preserved : goal.loop-seat-preserved
loop-seat-preserved g c =
    let at = c.loop-seat in
    let steps = c.in-Some.ensures.steps.0 in
    let gone = c.in-Some.ensures.steps.1 in
    let was = at.invariant.len in
    let short = ap (λ (l : List _). length l) steps in
    record {
      ours = c.join.ensures.root.0;
      joined = join_more (λ s. view s) (view c.args.root) (view at.root) (view c.join.new.root) at.yielded c.in-Some.seat at.invariant.joined c.join.ensures.root.1 c.join.ensures.ordered;
      rest = append_assoc at.yielded (c.in-Some.seat ∷ []) (into_iter_items c.next.new.self) ∙ (ap (λ (l : List _). at.yielded ++ l) (sym steps) ∙ at.invariant.rest);
      len = omega (arith, gone, was, short);
    }
