use Rattle.std.proofs.Common.{◌∙◌, sym}
use Rattle.job_table.proofs.Steps.{Ordered}
use Rattle.job_table.proofs.Applied.{cut_stored, cut_logged, cut_passing_applied, cut_passing_enough, cut_free, cut_plain_applied, cut_plain_enough}
use Rattle.job_table.proofs.table.JobTable.apply_cut.Goals as goal

pub cut_item-item-requires : goal.cut_item-item-requires
cut_item-item-requires g c =
    let m = c.requires.legal in
    let o : Ordered (g.G.GraphStore.graph c.args.graph.now) = record {
      objects = g.met.G.GraphStore.objects_in_order c.args.graph.now;
      edges = g.met.G.GraphStore.edges_in_order c.args.graph.now;
      ends = g.met.G.GraphStore.ends_stand c.args.graph.now;
    } in
    cut_stored m.0 c.args.entry.now c.args.job c.args.key.now c.args.self.now _ _ _ c.requires.is m.1 m.2 o m.3

pub note_passing-requires-clause-owed : goal.note_passing-requires-clause-owed
note_passing-requires-clause-owed g c =
    let m = c.requires.legal in
    let o : Ordered (g.G.GraphStore.graph c.args.graph.now) = record {
      objects = g.met.G.GraphStore.objects_in_order c.args.graph.now;
      edges = g.met.G.GraphStore.edges_in_order c.args.graph.now;
      ends = g.met.G.GraphStore.ends_stand c.args.graph.now;
    } in
    cut_passing_enough m.0 c.args.entry.now c.args.job c.args.key.now c.args.self.now _ _ _ c.requires.is m.1 m.2 o m.3 (sym (c.passes.ensures m.0 m.1) ∙ c.if-passes.true)

pub note_passing-requires-clause-free : goal.note_passing-requires-clause-free
note_passing-requires-clause-free g c =
    let m = c.requires.legal in
    let o : Ordered (g.G.GraphStore.graph c.args.graph.now) = record {
      objects = g.met.G.GraphStore.objects_in_order c.args.graph.now;
      edges = g.met.G.GraphStore.edges_in_order c.args.graph.now;
      ends = g.met.G.GraphStore.ends_stand c.args.graph.now;
    } in
    cut_free m.0 c.args.entry.now c.args.job c.args.key.now c.args.self.now _ _ _ c.requires.is m.1 m.2 o m.3 (sym (c.passes.ensures m.0 m.1) ∙ c.if-passes.true)

pub returns-then-passes-clause-table : goal.returns-then-passes-clause-table
returns-then-passes-clause-table g c =
    λ s h i l.
    let o : Ordered (g.G.GraphStore.graph c.args.graph.now) = record {
      objects = g.met.G.GraphStore.objects_in_order c.args.graph.now;
      edges = g.met.G.GraphStore.edges_in_order c.args.graph.now;
      ends = g.met.G.GraphStore.ends_stand c.args.graph.now;
    } in
    cut_passing_applied s c.args.entry.now c.args.job c.args.key.now c.args.self.now _ _ _ c.requires.is h i o l _ c.cut_item-item.result
    (cut_logged s c.args.entry.now c.args.job c.args.key.now c.args.self.now _ _ _ c.requires.is h i o l c.cut_item-item.result c.cut_item-item.ensures)
    (sym (c.passes.ensures s h) ∙ c.if-passes.true) c.note_passing.ensures.same c.note_passing.ensures.gains

pub note_item-requires-clause-owed : goal.note_item-requires-clause-owed
note_item-requires-clause-owed g c =
    let m = c.requires.legal in
    let o : Ordered (g.G.GraphStore.graph c.args.graph.now) = record {
      objects = g.met.G.GraphStore.objects_in_order c.args.graph.now;
      edges = g.met.G.GraphStore.edges_in_order c.args.graph.now;
      ends = g.met.G.GraphStore.ends_stand c.args.graph.now;
    } in
    cut_plain_enough m.0 c.args.entry.now c.args.job c.args.key.now c.args.self.now _ _ _ c.requires.is m.1 m.2 o m.3 (sym (c.passes.ensures m.0 m.1) ∙ c.if-passes.false)

pub returns-clause-table : goal.returns-clause-table
returns-clause-table g c =
    λ s h i l.
    let o : Ordered (g.G.GraphStore.graph c.args.graph.now) = record {
      objects = g.met.G.GraphStore.objects_in_order c.args.graph.now;
      edges = g.met.G.GraphStore.edges_in_order c.args.graph.now;
      ends = g.met.G.GraphStore.ends_stand c.args.graph.now;
    } in
    cut_plain_applied s c.args.entry.now c.args.job c.args.key.now c.args.self.now _ _ _ c.requires.is h i o l _ c.cut_item-item.result
    (cut_logged s c.args.entry.now c.args.job c.args.key.now c.args.self.now _ _ _ c.requires.is h i o l c.cut_item-item.result c.cut_item-item.ensures)
    (sym (c.passes.ensures s h) ∙ c.if-passes.false) c.note_item.ensures
