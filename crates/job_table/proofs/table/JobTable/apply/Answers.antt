use Rattle.job_table.proofs.Steps.{Ordered}
use Rattle.job_table.proofs.Rising.{rise_told}
use Rattle.job_table.proofs.Applied.{create_applied, create_room, update_applied, update_room, link_applied, link_room, delete_applied, restore_applied, restore_room, expire_applied, purge_applied, purge_enough}
use Rattle.job_table.proofs.table.JobTable.apply.Goals as goal

pub note-requires-clause-room : goal.note-requires-clause-room
note-requires-clause-room g c =
    let m = c.requires.legal in
    let o : Ordered (g.G.GraphStore.graph c.args.graph.now) = record {
      objects = g.met.G.GraphStore.objects_in_order c.args.graph.now;
      edges = g.met.G.GraphStore.edges_in_order c.args.graph.now;
      ends = g.met.G.GraphStore.ends_stand c.args.graph.now;
    } in
    create_room m.0 c.args.entry.now c.args.self.now _ _ _ m.1 m.2 o m.3 c.in-Create.tag c.in-Create.kind c.in-Create.id c.in-Create.size c.in-Create.is

pub note-requires-in-Update-clause-room : goal.note-requires-in-Update-clause-room
note-requires-in-Update-clause-room g c =
    let m = c.requires.legal in
    let o : Ordered (g.G.GraphStore.graph c.args.graph.now) = record {
      objects = g.met.G.GraphStore.objects_in_order c.args.graph.now;
      edges = g.met.G.GraphStore.edges_in_order c.args.graph.now;
      ends = g.met.G.GraphStore.ends_stand c.args.graph.now;
    } in
    update_room m.0 c.args.entry.now c.args.self.now _ _ _ m.1 m.2 o m.3 c.in-Update.tag c.in-Update.id c.in-Update.size c.in-Update.is

pub note-requires-in-Link-clause-room : goal.note-requires-in-Link-clause-room
note-requires-in-Link-clause-room g c =
    let m = c.requires.legal in
    let o : Ordered (g.G.GraphStore.graph c.args.graph.now) = record {
      objects = g.met.G.GraphStore.objects_in_order c.args.graph.now;
      edges = g.met.G.GraphStore.edges_in_order c.args.graph.now;
      ends = g.met.G.GraphStore.ends_stand c.args.graph.now;
    } in
    link_room m.0 c.args.entry.now c.args.self.now _ _ _ m.1 m.2 o m.3 c.in-Link.tag c.in-Link.edge c.in-Link.from c.in-Link.to c.in-Link.size c.in-Link.is

pub note_restore-requires-clause-room : goal.note_restore-requires-clause-room
note_restore-requires-clause-room g c =
    let m = c.requires.legal in
    let o : Ordered (g.G.GraphStore.graph c.args.graph.now) = record {
      objects = g.met.G.GraphStore.objects_in_order c.args.graph.now;
      edges = g.met.G.GraphStore.edges_in_order c.args.graph.now;
      ends = g.met.G.GraphStore.ends_stand c.args.graph.now;
    } in
    restore_room m.0 c.args.entry.now c.args.self.now _ _ _ m.1 m.2 o m.3 c.in-Restore.tag c.in-Restore.job c.in-Restore.is

pub note_purge-requires-clause-owed : goal.note_purge-requires-clause-owed
note_purge-requires-clause-owed g c =
    let m = c.requires.legal in
    let o : Ordered (g.G.GraphStore.graph c.args.graph.now) = record {
      objects = g.met.G.GraphStore.objects_in_order c.args.graph.now;
      edges = g.met.G.GraphStore.edges_in_order c.args.graph.now;
      ends = g.met.G.GraphStore.ends_stand c.args.graph.now;
    } in
    purge_enough m.0 c.args.entry.now c.args.self.now _ _ _ m.1 m.2 o m.3 c.in-Purge.job c.in-Purge.is

pub returns-in-Create-clause-table : goal.returns-in-Create-clause-table
returns-in-Create-clause-table g c =
    λ s h i l.
    let o : Ordered (g.G.GraphStore.graph c.args.graph.now) = record {
      objects = g.met.G.GraphStore.objects_in_order c.args.graph.now;
      edges = g.met.G.GraphStore.edges_in_order c.args.graph.now;
      ends = g.met.G.GraphStore.ends_stand c.args.graph.now;
    } in
    create_applied s c.args.entry.now c.args.self.now _ _ _ h i o l c.in-Create.tag c.in-Create.kind c.in-Create.id c.in-Create.size _ c.in-Create.is c.note.ensures

pub returns-in-Update-clause-table : goal.returns-in-Update-clause-table
returns-in-Update-clause-table g c =
    λ s h i l.
    let o : Ordered (g.G.GraphStore.graph c.args.graph.now) = record {
      objects = g.met.G.GraphStore.objects_in_order c.args.graph.now;
      edges = g.met.G.GraphStore.edges_in_order c.args.graph.now;
      ends = g.met.G.GraphStore.ends_stand c.args.graph.now;
    } in
    update_applied s c.args.entry.now c.args.self.now _ _ _ h i o l c.in-Update.tag c.in-Update.id c.in-Update.size _ c.in-Update.is c.note-in-Update.ensures

pub returns-in-Link-clause-table : goal.returns-in-Link-clause-table
returns-in-Link-clause-table g c =
    λ s h i l.
    let o : Ordered (g.G.GraphStore.graph c.args.graph.now) = record {
      objects = g.met.G.GraphStore.objects_in_order c.args.graph.now;
      edges = g.met.G.GraphStore.edges_in_order c.args.graph.now;
      ends = g.met.G.GraphStore.ends_stand c.args.graph.now;
    } in
    link_applied s c.args.entry.now c.args.self.now _ _ _ h i o l c.in-Link.tag c.in-Link.edge c.in-Link.from c.in-Link.to c.in-Link.size _ c.in-Link.is c.note-in-Link.ensures

pub returns-in-Delete-clause-table : goal.returns-in-Delete-clause-table
returns-in-Delete-clause-table g c =
    λ s h i l.
    let o : Ordered (g.G.GraphStore.graph c.args.graph.now) = record {
      objects = g.met.G.GraphStore.objects_in_order c.args.graph.now;
      edges = g.met.G.GraphStore.edges_in_order c.args.graph.now;
      ends = g.met.G.GraphStore.ends_stand c.args.graph.now;
    } in
    delete_applied s c.args.entry.now c.args.self.now _ _ _ h i o l c.in-Delete.tag c.in-Delete.id c.in-Delete.name _ c.in-Delete.is c.note_start.ensures.same c.note_start.ensures.gains

pub returns-in-Restore-clause-table : goal.returns-in-Restore-clause-table
returns-in-Restore-clause-table g c =
    λ s h i l.
    let o : Ordered (g.G.GraphStore.graph c.args.graph.now) = record {
      objects = g.met.G.GraphStore.objects_in_order c.args.graph.now;
      edges = g.met.G.GraphStore.edges_in_order c.args.graph.now;
      ends = g.met.G.GraphStore.ends_stand c.args.graph.now;
    } in
    restore_applied s c.args.entry.now c.args.self.now _ _ _ h i o l c.in-Restore.tag c.in-Restore.job _ c.in-Restore.is c.note_restore.ensures

pub returns-in-Expire-clause-table : goal.returns-in-Expire-clause-table
returns-in-Expire-clause-table g c =
    λ s h i l.
    let o : Ordered (g.G.GraphStore.graph c.args.graph.now) = record {
      objects = g.met.G.GraphStore.objects_in_order c.args.graph.now;
      edges = g.met.G.GraphStore.edges_in_order c.args.graph.now;
      ends = g.met.G.GraphStore.ends_stand c.args.graph.now;
    } in
    expire_applied s c.args.entry.now c.args.self.now _ _ _ h i o l c.in-Expire.id _ c.in-Expire.is c.note_start-in-Expire.ensures.same c.note_start-in-Expire.ensures.gains

pub returns-in-Purge-clause-table : goal.returns-in-Purge-clause-table
returns-in-Purge-clause-table g c =
    λ s h i l.
    let o : Ordered (g.G.GraphStore.graph c.args.graph.now) = record {
      objects = g.met.G.GraphStore.objects_in_order c.args.graph.now;
      edges = g.met.G.GraphStore.edges_in_order c.args.graph.now;
      ends = g.met.G.GraphStore.ends_stand c.args.graph.now;
    } in
    purge_applied s c.args.entry.now c.args.self.now _ _ _ h i o l c.in-Purge.job _ c.in-Purge.is c.note_purge.ensures

pub note_start-requires-clause-rise : goal.note_start-requires-clause-rise
note_start-requires-clause-rise g c = let m = c.requires.legal in rise_told m.0 c.args.self.now m.1

pub note_start-requires-in-Expire-clause-rise : goal.note_start-requires-in-Expire-clause-rise
note_start-requires-in-Expire-clause-rise g c = let m = c.requires.legal in rise_told m.0 c.args.self.now m.1
