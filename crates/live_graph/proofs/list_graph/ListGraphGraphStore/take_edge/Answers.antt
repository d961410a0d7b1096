use Rattle.std.proofs.Common.{◌≡◌, ◌<◌, true, List, length, sym, subst, arith}
use Rattle.delf_model.specs.declared.rows.EdgeRow.{EdgeRow}
use Rattle.delf_model.specs.Graph.{edges_rise}
use Rattle.live_graph.specs.Ends.{all_have_ends}
use Rattle.live_graph.proofs.Edges.{edges_rise_filter, length-filter_edge}
use Rattle.live_graph.proofs.Ends.{ends_filter_edge}
use Rattle.live_graph.proofs.list_graph.ListGraphGraphStore.take_edge.Goals as goal

pub invariant_of-self : goal.invariant_of-self
invariant_of-self c = record {
  ids_rise = c.args.self.now.ids_rise;
  keys_rise = subst (λ (rs : List EdgeRow). edges_rise rs ≡ true) (sym c.without_edge.ensures) (edges_rise_filter c.args.key c.args.self.now.edges.items c.args.self.now.keys_rise);
  ends = subst (λ (rs : List EdgeRow). all_have_ends c.args.self.now.objects.items rs ≡ true) (sym c.without_edge.ensures)
      (ends_filter_edge c.args.key c.args.self.now.objects.items c.args.self.now.edges.items c.args.self.now.ends);
  few = subst (λ (rs : List EdgeRow). length rs < 4294967296) (sym c.without_edge.ensures)
      (let less = length-filter_edge c.args.key c.args.self.now.edges.items in let few = c.args.self.now.few in omega arith);
}
