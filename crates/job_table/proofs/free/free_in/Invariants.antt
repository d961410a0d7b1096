use Rattle.std.proofs.Common.{◌≡◌, ◌-◌, ◌≤◌, drop, length}
use Rattle.delf_model.specs.Graph.{in_edges}
use Rattle.job_table.specs.Free.{free_cut}
use Rattle.job_table.proofs.free.free_in.Given as goal

abbrev pub invariant-edges : goal.invariant-edges
invariant-edges g l = record {
  within : l.i ≤ length (in_edges (g.G.GraphStore.graph l.graph) l.id);
  rest : free_cut l.claims.list l.job (in_edges (g.G.GraphStore.graph l.graph) l.id) ≡
      free_cut l.claims.list l.job (drop l.i (in_edges (g.G.GraphStore.graph l.graph) l.id));
}

abbrev pub decreases-edges : goal.decreases-edges
decreases-edges g l = length (in_edges (g.G.GraphStore.graph l.graph) l.id) - l.i
