use Rattle.std.proofs.Common.{arith, ap}
use Rattle.object_shards.specs.Tables.{room_at}
use Rattle.object_shards.proofs.Joined.{put_turns, changed_shards, changed_rows, room_get}
use Rattle.object_shards.proofs.tables.put_in.Goals as goal

pub returns-clause-shards : goal.returns-clause-shards
returns-clause-shards c =
    changed_shards c.args.row.now.id c.table_of-place.result _ (put_turns c.args.row.now) c.args.tables.now.items c.index_mut.result.now c.put.new.self c.table_of-place.ensures (let count = c.requires.count in let at = c.table_of-place.ensures in omega arith)
    c.index_mut.ensures.value c.put.ensures.rows c.requires.shards

pub returns-clause-rows : goal.returns-clause-rows
returns-clause-rows c =
    changed_rows c.args.row.now.id c.table_of-place.result _ (put_turns c.args.row.now) c.args.tables.now.items c.index_mut.result.now c.put.new.self c.table_of-place.ensures (let count = c.requires.count in let at = c.table_of-place.ensures in omega arith)
    c.index_mut.ensures.value c.put.ensures.rows c.requires.shards

pub put-requires : goal.put-requires
put-requires c =
    let room = c.requires.room in
    let at = ap (room_at c.args.tables.now.items) c.table_of-place.ensures in
    let here = room_get c.args.tables.now.items c.table_of-place.result c.index_mut.result.now (let count = c.requires.count in let at = c.table_of-place.ensures in omega arith) c.index_mut.ensures.value in
    omega arith
