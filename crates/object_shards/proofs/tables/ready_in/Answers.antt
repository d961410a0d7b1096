use Rattle.std.proofs.Common.{◌%◌, arith}
use Rattle.object_shards.proofs.Joined.{no_turns, changed_shards, changed_rows, room_kept, room_made, on_ok}
use Rattle.object_shards.proofs.tables.ready_in.Goals as goal

pub returns-clause-shards : goal.returns-clause-shards
returns-clause-shards c =
    changed_shards c.args.id c.table_of-place.result _ (no_turns c.args.id) c.args.tables.now.items c.index_mut.result.now c.ready.new.self c.table_of-place.ensures (let count = c.requires.count in let at = c.table_of-place.ensures in omega arith)
    c.index_mut.ensures.value c.ready.ensures.rows c.requires.shards

pub returns-clause-rows : goal.returns-clause-rows
returns-clause-rows c =
    changed_rows c.args.id c.table_of-place.result _ (no_turns c.args.id) c.args.tables.now.items c.index_mut.result.now c.ready.new.self c.table_of-place.ensures (let count = c.requires.count in let at = c.table_of-place.ensures in omega arith)
    c.index_mut.ensures.value c.ready.ensures.rows c.requires.shards

pub returns-clause-kept : goal.returns-clause-kept
returns-clause-kept c =
    room_kept c.args.tables.now.items c.table_of-place.result c.index_mut.result.now c.ready.new.self
    (let count = c.requires.count in let at = c.table_of-place.ensures in omega arith) c.index_mut.ensures.value c.ready.ensures.kept

pub returns-clause-room : goal.returns-clause-room
returns-clause-room c =
    on_ok c.ready.result _ _
    (room_made c.args.tables.now.items c.table_of-place.result (c.args.id % 16) c.ready.new.self c.table_of-place.ensures
    (let count = c.requires.count in let at = c.table_of-place.ensures in omega arith))
    c.ready.ensures.room
