use Rattle.job_table.proofs.Steps.{Ordered}
use Rattle.job_table.proofs.Applied.{put_item_is, put_enough, put_applied}
use Rattle.job_table.proofs.table.JobTable.apply_put.Goals as goal

pub note_put-requires-clause-owed : goal.note_put-requires-clause-owed
note_put-requires-clause-owed g c =
    let m = c.requires.legal in
    let o : Ordered (g.G.GraphStore.graph c.args.graph.now) = record {
      objects = g.met.G.GraphStore.objects_in_order c.args.graph.now;
      edges = g.met.G.GraphStore.edges_in_order c.args.graph.now;
      ends = g.met.G.GraphStore.ends_stand c.args.graph.now;
    } in
    put_enough m.0 c.args.entry.now c.args.job c.args.i c.args.self.now _ _ _ c.requires.is m.1 m.2 o m.3 c.in-Some.item (c.in-Some.ensures m.0 m.1)

pub returns-clause-table : goal.returns-clause-table
returns-clause-table g c =
    λ s h i l.
    let o : Ordered (g.G.GraphStore.graph c.args.graph.now) = record {
      objects = g.met.G.GraphStore.objects_in_order c.args.graph.now;
      edges = g.met.G.GraphStore.edges_in_order c.args.graph.now;
      ends = g.met.G.GraphStore.ends_stand c.args.graph.now;
    } in
    put_applied s c.args.entry.now c.args.job c.args.i c.args.self.now _ _ _ c.requires.is h i o l _ c.in-Some.item c.judged-cause.result (c.in-Some.ensures s h) (c.judged-cause.ensures s h i.graph) c.note_put.ensures

pub unreachable-requires : goal.unreachable-requires
unreachable-requires g c =
    let m = c.requires.legal in
    let o : Ordered (g.G.GraphStore.graph c.args.graph.now) = record {
      objects = g.met.G.GraphStore.objects_in_order c.args.graph.now;
      edges = g.met.G.GraphStore.edges_in_order c.args.graph.now;
      ends = g.met.G.GraphStore.ends_stand c.args.graph.now;
    } in
    let e = put_item_is m.0 c.args.entry.now c.args.job c.args.i c.args.self.now _ _ _ c.requires.is m.1 m.2 o m.3 in
    let n = c.in-None.ensures m.0 m.1 in
    cc (e, n)
