use Rattle.std.proofs.Common.{◌≡◌, ◌≤◌, ◌/◌, true, List, length, sym, ap, subst, ◌∙◌, arith}
use Rattle.std.proofs.lemmas.List.{length-take}
use Rattle.delf_model.specs.declared.rows.ObjectRow.{ObjectRow}
use Rattle.delf_model.specs.Graph.{objects_rise}
use Rattle.object_shards.specs.Rows.{least_of}
use Rattle.object_shards.proofs.Ids.{objects_rise_take}
use Rattle.object_shards.proofs.shard.Shard.keep_lower_half.Goals as goal

pub invariant_of-self : goal.invariant_of-self
invariant_of-self c =
    let s = c.args.self.now in
    record {
      ids_rise = subst (λ (rs : List ObjectRow). objects_rise rs ≡ true) (sym c.truncate.ensures.items) (objects_rise_take (c.len-middle.result / 2) s.rows.items s.ids_rise);
      least_is = c.least_due_of-self.ensures ∙ ap least_of c.deref.ensures.value;
      few = subst (λ (rs : List ObjectRow). length rs ≤ 256) (sym c.truncate.ensures.items)
          (let few = s.few in omega (arith, length-take {A = ObjectRow}));
    }
