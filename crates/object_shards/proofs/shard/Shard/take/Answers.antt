use Rattle.std.proofs.Common.{◌≡◌, ◌≤◌, true, List, length, sym, ap, subst, ◌∙◌, arith}
use Rattle.delf_model.specs.declared.rows.ObjectRow.{ObjectRow}
use Rattle.delf_model.specs.Graph.{objects_rise}
use Rattle.object_shards.specs.Rows.{least_of}
use Rattle.object_shards.proofs.Ids.{objects_rise_filter, filter_none}
use Rattle.object_shards.proofs.Dues.{least_kept, length-filter_object}
use Rattle.object_shards.proofs.shard.Shard.take.Goals as goal

pub invariant_of-self : goal.invariant_of-self
invariant_of-self c =
    let s = c.args.self.now in
    record {
      ids_rise = subst (λ (rs : List ObjectRow). objects_rise rs ≡ true) (sym c.take_row.ensures.rest) (objects_rise_filter c.args.id s.rows.items s.ids_rise);
      least_is = c.least_due_of-self.ensures ∙ ap least_of c.deref.ensures.value;
      few = subst (λ (rs : List ObjectRow). length rs ≤ 256) (sym c.take_row.ensures.rest)
          (let long = length-filter_object c.args.id s.rows.items in let few = s.few in omega arith);
    }

pub invariant_of-self-else-row-self : goal.invariant_of-self-else-row-self
invariant_of-self-else-row-self c =
    let s = c.args.self.now in
    record {
      ids_rise = subst (λ (rs : List ObjectRow). objects_rise rs ≡ true) (sym c.take_row.ensures.rest) (objects_rise_filter c.args.id s.rows.items s.ids_rise);
      least_is = s.least_is ∙ (least_kept c.args.id s.rows.items c.in-Some.row s.ids_rise (sym c.take_row.ensures.row ∙ c.in-Some.is)
          (λ same. c.if-row-self.false (same ∙ sym s.least_is)) ∙ ap least_of (sym c.take_row.ensures.rest));
      few = subst (λ (rs : List ObjectRow). length rs ≤ 256) (sym c.take_row.ensures.rest)
          (let long = length-filter_object c.args.id s.rows.items in let few = s.few in omega arith);
    }

pub invariant_of-self-in-None : goal.invariant_of-self-in-None
invariant_of-self-in-None c =
    let s = c.args.self.now in
    record {
      ids_rise = subst (λ (rs : List ObjectRow). objects_rise rs ≡ true) (sym c.take_row.ensures.rest) (objects_rise_filter c.args.id s.rows.items s.ids_rise);
      least_is = s.least_is ∙ ap least_of (sym (c.take_row.ensures.rest ∙ filter_none c.args.id s.rows.items (sym c.take_row.ensures.row ∙ c.in-None.is)));
      few = subst (λ (rs : List ObjectRow). length rs ≤ 256) (sym c.take_row.ensures.rest)
          (let long = length-filter_object c.args.id s.rows.items in let few = s.few in omega arith);
    }
