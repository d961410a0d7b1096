use Rattle.job_table.proofs.Steps.{Ordered}
use Rattle.job_table.proofs.Applied.{erase_stored, erase_owner, erase_enough, erase_applied}
use Rattle.job_table.proofs.table.JobTable.apply_erase.Goals as goal

pub note_erase-requires-clause-owed : goal.note_erase-requires-clause-owed
note_erase-requires-clause-owed g c =
    let m = c.requires.legal in
    let o : Ordered (g.G.GraphStore.graph c.args.graph.now) = record {
      objects = g.met.G.GraphStore.objects_in_order c.args.graph.now;
      edges = g.met.G.GraphStore.edges_in_order c.args.graph.now;
      ends = g.met.G.GraphStore.ends_stand c.args.graph.now;
    } in
    erase_enough m.0 c.args.entry.now c.args.job c.args.id c.args.self.now _ _ _ c.requires.is m.1 m.2 o m.3

pub note_erase-requires-clause-owner : goal.note_erase-requires-clause-owner
note_erase-requires-clause-owner g c =
    let m = c.requires.legal in
    let o : Ordered (g.G.GraphStore.graph c.args.graph.now) = record {
      objects = g.met.G.GraphStore.objects_in_order c.args.graph.now;
      edges = g.met.G.GraphStore.edges_in_order c.args.graph.now;
      ends = g.met.G.GraphStore.ends_stand c.args.graph.now;
    } in
    erase_owner m.0 c.args.entry.now c.args.job c.args.id c.args.self.now _ _ _ c.requires.is m.1 m.2 o m.3

pub returns-clause-table : goal.returns-clause-table
returns-clause-table g c =
    λ s h i l.
    let o : Ordered (g.G.GraphStore.graph c.args.graph.now) = record {
      objects = g.met.G.GraphStore.objects_in_order c.args.graph.now;
      edges = g.met.G.GraphStore.edges_in_order c.args.graph.now;
      ends = g.met.G.GraphStore.ends_stand c.args.graph.now;
    } in
    erase_applied s c.args.entry.now c.args.job c.args.id c.args.self.now _ _ _ c.requires.is h i o l _ c.in-Some.row c.in-Some.ensures c.note_erase.ensures.same c.note_erase.ensures.owners c.note_erase.ensures.owned

pub unreachable-requires : goal.unreachable-requires
unreachable-requires g c =
    let m = c.requires.legal in
    let o : Ordered (g.G.GraphStore.graph c.args.graph.now) = record {
      objects = g.met.G.GraphStore.objects_in_order c.args.graph.now;
      edges = g.met.G.GraphStore.edges_in_order c.args.graph.now;
      ends = g.met.G.GraphStore.ends_stand c.args.graph.now;
    } in
    let e = erase_stored m.0 c.args.entry.now c.args.job c.args.id c.args.self.now _ _ _ c.requires.is m.1 m.2 o m.3 in
    cc (e, c.in-None.ensures)
