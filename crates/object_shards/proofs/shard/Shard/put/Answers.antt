use Rattle.std.proofs.Common.{◌≡◌, ◌≤◌, ltb, true, List, length, sym, ap, subst, ◌∙◌, arith}
use Rattle.std.proofs.lemmas.Bool.Decides.{nat_tests}
use Rattle.std.proofs.lemmas.Bool.{and_parts}
use Rattle.delf_model.specs.declared.rows.ObjectRow.{ObjectRow}
use Rattle.delf_model.specs.Graph.{objects_rise}
use Rattle.object_shards.specs.Rows.{least_of, lesser_due}
use Rattle.object_shards.proofs.Ids.{objects_rise_put}
use Rattle.object_shards.proofs.Dues.{least_put, length-put_object}
use Rattle.object_shards.proofs.shard.Shard.put.Goals as goal

pub invariant_of-self : goal.invariant_of-self
invariant_of-self c =
    let s = c.args.self.now in
    record {
      ids_rise = subst (λ (rs : List ObjectRow). objects_rise rs ≡ true) (sym c.put_row.ensures) (objects_rise_put c.args.row s.rows.items s.ids_rise);
      least_is = c.lesser_due-least.ensures ∙ (ap (λ n. lesser_due c.args.row.due n) s.least_is ∙ (sym (least_put c.args.row s.rows.items c.requires.free)
          ∙ ap least_of (sym c.put_row.ensures)));
      few = subst (λ (rs : List ObjectRow). length rs ≤ 256) (sym c.put_row.ensures)
          (let long = length-put_object c.args.row s.rows.items in
          let room = and_parts (ltb s.rows.len 256) (ltb s.rows.len s.rows.cap) c.requires.room in
          let under = room.0 in let is = s.rows.ok.0 in grind (arith, nat_tests));
    }
