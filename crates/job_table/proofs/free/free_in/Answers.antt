use Rattle.std.proofs.Common.{arith}
use Rattle.delf_model.specs.Graph.{in_edges, leads_to}
use Rattle.job_table.proofs.FreeSteps.{edge_free, edge_held, edges_over, within, filter_fits}
use Rattle.job_table.proofs.free.free_in.Goals as goal

pub returns-in-None : goal.returns-in-None
returns-in-None g c =
    edges_over c.args.claims.now.list c.args.job c.edges.i (in_edges (g.G.GraphStore.graph c.args.graph.now) c.args.id) c.edges.invariant.rest c.in-None.ensures

pub returns-then-not-is_held : goal.returns-then-not-is_held
returns-then-not-is_held g c =
    edge_free c.args.claims.now.list c.args.job c.edges.i (in_edges (g.G.GraphStore.graph c.args.graph.now) c.args.id) c.in-Some.row c.cut-step.result c.is_held.result
    c.edges.invariant.rest c.in-Some.ensures c.cut-step.ensures c.is_held.ensures c.if-not-is_held.true

pub overflow_add-i : goal.overflow_add-i
overflow_add-i g c =
    let l = within (in_edges (g.G.GraphStore.graph c.args.graph.now) c.args.id) c.edges.i c.in-Some.row c.in-Some.ensures in
    let f = filter_fits (leads_to c.args.id) (g.G.GraphStore.graph c.args.graph.now).edges in
    omega (arith, l, f, g.met.G.GraphStore.edges_fit c.args.graph.now)

pub edges-smaller : goal.edges-smaller
edges-smaller g c =
    let l = within (in_edges (g.G.GraphStore.graph c.args.graph.now) c.args.id) c.edges.i c.in-Some.row c.in-Some.ensures in
    omega (arith, l)

pub edges-preserved : goal.edges-preserved
edges-preserved g c =
    let l = within (in_edges (g.G.GraphStore.graph c.args.graph.now) c.args.id) c.edges.i c.in-Some.row c.in-Some.ensures in record {
      within = omega (arith, l);
      rest =
          edge_held c.args.claims.now.list c.args.job c.edges.i (in_edges (g.G.GraphStore.graph c.args.graph.now) c.args.id) c.in-Some.row c.cut-step.result c.is_held.result
          c.edges.invariant.rest c.in-Some.ensures c.cut-step.ensures c.is_held.ensures c.if-not-is_held.false;
    }
