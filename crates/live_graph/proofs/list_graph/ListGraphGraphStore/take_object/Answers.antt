use Rattle.std.proofs.Common.{◌≡◌, true, List, sym, subst}
use Rattle.delf_model.specs.declared.rows.ObjectRow.{ObjectRow}
use Rattle.delf_model.specs.Graph.{objects_rise}
use Rattle.live_graph.specs.Ends.{all_have_ends}
use Rattle.live_graph.proofs.Objects.{objects_rise_filter}
use Rattle.live_graph.proofs.Ends.{ends_filter_object}
use Rattle.live_graph.proofs.list_graph.ListGraphGraphStore.take_object.Goals as goal

pub invariant_of-self : goal.invariant_of-self
invariant_of-self c = record {
  ids_rise = subst (λ (rs : List ObjectRow). objects_rise rs ≡ true) (sym c.without_object.ensures) (objects_rise_filter c.args.id c.args.self.now.objects.items c.args.self.now.ids_rise);
  keys_rise = c.args.self.now.keys_rise;
  ends = subst (λ (rs : List ObjectRow). all_have_ends rs c.args.self.now.edges.items ≡ true) (sym c.without_object.ensures)
      (ends_filter_object c.args.id c.args.self.now.objects.items c.args.self.now.edges.items c.requires c.args.self.now.ends);
  few = c.args.self.now.few;
}
