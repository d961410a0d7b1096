use Rattle.std.proofs.Common.{◌≡◌, ◌-◌, ◌≤◌, drop, length}
use Rattle.delf_model.specs.Graph.{out_edges}
use Rattle.job_table.specs.Free.{free_cut}
use Rattle.job_table.proofs.free.free_out.Given as goal

abbrev pub invariant-edges : goal.invariant-edges
invariant-edges g l = record {
  within : l.i ≤ length (out_edges (g.G.GraphStore.graph l.graph) l.id);
  rest : free_cut l.claims.list l.job (out_edges (g.G.GraphStore.graph l.graph) l.id) ≡
      free_cut l.claims.list l.job (drop l.i (out_edges (g.G.GraphStore.graph l.graph) l.id));
}

abbrev pub decreases-edges : goal.decreases-edges
decreases-edges g l = length (out_edges (g.G.GraphStore.graph l.graph) l.id) - l.i
