use Rattle.std.proofs.Common.{◌∙◌, sym}
use Rattle.job_table.proofs.Steps.{Ordered}
use Rattle.job_table.proofs.Rising.{rise_told}
use Rattle.job_table.proofs.Applied.{unlink_started_applied, unlink_started_enough, unlink_plain_applied}
use Rattle.job_table.proofs.table.JobTable.apply_unlink.Goals as goal

pub note_start-requires-clause-owed : goal.note_start-requires-clause-owed
note_start-requires-clause-owed g c =
    let m = c.requires.legal in
    let o : Ordered (g.G.GraphStore.graph c.args.graph.now) = record {
      objects = g.met.G.GraphStore.objects_in_order c.args.graph.now;
      edges = g.met.G.GraphStore.edges_in_order c.args.graph.now;
      ends = g.met.G.GraphStore.ends_stand c.args.graph.now;
    } in
    unlink_started_enough m.0 c.args.entry.now c.args.tag.now c.args.key.now c.args.name c.args.self.now _ _ _ c.requires.is m.1 m.2 o m.3
    (sym c.takes_last_reference.ensures ∙ c.if-takes_last_reference.true)

pub returns-then-takes_last_reference-clause-table :
    goal.returns-then-takes_last_reference-clause-table
returns-then-takes_last_reference-clause-table g c =
    λ s h i l.
    let o : Ordered (g.G.GraphStore.graph c.args.graph.now) = record {
      objects = g.met.G.GraphStore.objects_in_order c.args.graph.now;
      edges = g.met.G.GraphStore.edges_in_order c.args.graph.now;
      ends = g.met.G.GraphStore.ends_stand c.args.graph.now;
    } in
    unlink_started_applied s c.args.entry.now c.args.tag.now c.args.key.now c.args.name c.args.self.now _ _ _ c.requires.is h i o l _
    (sym c.takes_last_reference.ensures ∙ c.if-takes_last_reference.true) c.note_start.ensures.same c.note_start.ensures.gains

pub returns-clause-table : goal.returns-clause-table
returns-clause-table g c =
    λ s h i l.
    let o : Ordered (g.G.GraphStore.graph c.args.graph.now) = record {
      objects = g.met.G.GraphStore.objects_in_order c.args.graph.now;
      edges = g.met.G.GraphStore.edges_in_order c.args.graph.now;
      ends = g.met.G.GraphStore.ends_stand c.args.graph.now;
    } in
    unlink_plain_applied s c.args.entry.now c.args.tag.now c.args.key.now c.args.name c.args.self.now _ _ _ c.requires.is h i o l _
    (sym c.takes_last_reference.ensures ∙ c.if-takes_last_reference.false) c.note_unlink.ensures

pub note_start-requires-clause-rise : goal.note_start-requires-clause-rise
note_start-requires-clause-rise g c = let m = c.requires.legal in rise_told m.0 c.args.self.now m.1
