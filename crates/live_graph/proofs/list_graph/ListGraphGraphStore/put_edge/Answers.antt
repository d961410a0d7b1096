use Rattle.std.proofs.Common.{◌≡◌, ◌<◌, true, List, length, sym, ap, subst, arith}
use Rattle.delf_model.specs.declared.rows.EdgeRow.{EdgeRow}
use Rattle.delf_model.specs.Graph.{Graph, edges_rise, put_edge}
use Rattle.live_graph.specs.Ends.{all_have_ends}
use Rattle.live_graph.proofs.Edges.{edge_place_within, put_edge_is, edges_rise_put, length-put_edge}
use Rattle.live_graph.proofs.Ends.{ends_put_edge}
use Rattle.live_graph.proofs.list_graph.ListGraphGraphStore.put_edge.Goals as goal

pub insert_ready-requires-clause-place : goal.insert_ready-requires-clause-place
insert_ready-requires-clause-place c = omega (arith, edge_place_within c.args.row.key c.deref.result.now)

pub invariant_of-self : goal.invariant_of-self
invariant_of-self c =
    let is : c.insert_ready.new.list.items ≡ put_edge c.args.row c.args.self.now.edges.items =
    put_edge_is c.args.row c.deref.result.now c.args.self.now.edges.items c.insert_ready.new.list.items c.edge_place_of-place.result
    c.deref.ensures.value c.edge_place_of-place.ensures c.requires.free c.insert_ready.ensures in
    record {
      ids_rise = c.args.self.now.ids_rise;
      keys_rise = subst (λ (rs : List EdgeRow). edges_rise rs ≡ true) (sym is) (edges_rise_put c.args.row c.args.self.now.edges.items c.args.self.now.keys_rise);
      ends = subst (λ (rs : List EdgeRow). all_have_ends c.args.self.now.objects.items rs ≡ true) (sym is)
          (ends_put_edge c.args.row c.args.self.now.objects.items c.args.self.now.edges.items c.requires.source c.requires.target c.args.self.now.ends);
      few = subst (λ (rs : List EdgeRow). length rs < 4294967296) (sym is)
          (let one = length-put_edge c.args.row c.args.self.now.edges.items in let room = c.requires.room in omega arith);
    }

pub returns-clause-graph : goal.returns-clause-graph
returns-clause-graph c =
    ap (λ (rs : List EdgeRow). let g : Graph = record { objects = c.args.self.now.objects.items; edges = rs } in g)
    (put_edge_is c.args.row c.deref.result.now c.args.self.now.edges.items c.insert_ready.new.list.items c.edge_place_of-place.result
    c.deref.ensures.value c.edge_place_of-place.ensures c.requires.free c.insert_ready.ensures)
