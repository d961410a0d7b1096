use Rattle.std.proofs.Common.{◌≡◌, true, List, sym, ap, subst}
use Rattle.delf_model.specs.declared.rows.ObjectRow.{ObjectRow}
use Rattle.delf_model.specs.Graph.{Graph, objects_rise}
use Rattle.live_graph.proofs.Objects.{objects_rise_put}
use Rattle.live_graph.specs.Ends.{all_have_ends}
use Rattle.live_graph.proofs.Ends.{ends_put_object}
use Rattle.live_graph.proofs.list_graph.ListGraphGraphStore.put_object.Goals as goal

pub invariant_of-self : goal.invariant_of-self
invariant_of-self c =
    let g = c.args.self.now in
    record {
      ids_rise = subst (λ (rs : List ObjectRow). objects_rise rs ≡ true) (sym c.put_row.ensures) (objects_rise_put c.args.row g.objects.items g.ids_rise);
      keys_rise = g.keys_rise;
      ends = subst (λ (rs : List ObjectRow). all_have_ends rs g.edges.items ≡ true) (sym c.put_row.ensures)
          (ends_put_object c.args.row g.objects.items g.edges.items g.ends);
      few = g.few;
    }

pub returns-clause-graph : goal.returns-clause-graph
returns-clause-graph c =
    ap (λ (rs : List ObjectRow). let g : Graph = record { objects = rs; edges = c.args.self.now.edges.items } in g) c.put_row.ensures
