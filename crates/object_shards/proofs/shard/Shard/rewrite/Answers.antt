use Rattle.std.proofs.Common.{◌≡◌, ◌≤◌, true, List, length, sym, ap, subst, ◌∙◌, arith}
use Rattle.std.proofs.lemmas.List.{length-map}
use Rattle.delf_model.specs.declared.rows.ObjectRow.{ObjectRow}
use Rattle.delf_model.specs.Graph.{objects_rise, rewritten}
use Rattle.object_shards.specs.Rows.{least_of}
use Rattle.object_shards.proofs.Ids.{objects_rise_rewritten}
use Rattle.object_shards.proofs.Dues.{least_rewritten}
use Rattle.object_shards.proofs.shard.Shard.rewrite.Goals as goal

pub invariant_of-self : goal.invariant_of-self
invariant_of-self c =
    let s = c.args.self.now in
    record {
      ids_rise = subst (λ (rs : List ObjectRow). objects_rise rs ≡ true) (sym c.rewrite_row.ensures)
          (objects_rise_rewritten c.args.id c.args.at c.args.size s.rows.items s.ids_rise);
      least_is = s.least_is ∙ (sym (least_rewritten c.args.id c.args.at c.args.size s.rows.items) ∙ ap least_of (sym c.rewrite_row.ensures));
      few = subst (λ (rs : List ObjectRow). length rs ≤ 256) (sym c.rewrite_row.ensures)
          (let long = length-map s.rows.items (rewritten c.args.id c.args.at c.args.size) in let few = s.few in omega arith);
    }
