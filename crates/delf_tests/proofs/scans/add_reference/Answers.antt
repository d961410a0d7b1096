use Rattle.std.proofs.Common.{◌≤◌, ◌+◌, length, sym, subst}
use Rattle.delf_model.specs.Graph.{Graph, put_edge}
use Rattle.live_graph.proofs.Edges.{length-put_edge}
use Rattle.delf_tests.proofs.scans.add_reference.Goals as goal

pub returns : goal.returns
returns g c = subst (λ (x : Graph). length x.edges ≤ length (g.G.GraphStore.graph c.args.graph.now).edges + 1) (sym c.put_edge.ensures.graph)
    (subst (λ (x : Graph). length (put_edge c.reference-row.result x.edges) ≤ length (g.G.GraphStore.graph c.args.graph.now).edges + 1) (sym c.ready_edge.ensures.graph)
    (length-put_edge c.reference-row.result (g.G.GraphStore.graph c.args.graph.now).edges))
