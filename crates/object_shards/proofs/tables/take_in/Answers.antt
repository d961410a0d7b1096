use Rattle.std.proofs.Common.{arith, ◌∙◌}
use Rattle.object_shards.proofs.Joined.{take_turns, changed_shards, changed_rows, found_here}
use Rattle.object_shards.proofs.tables.take_in.Goals as goal

pub returns-clause-shards : goal.returns-clause-shards
returns-clause-shards c =
    changed_shards c.args.id c.table_of-place.result _ (take_turns c.args.id) c.args.tables.now.items c.index_mut.result.now c.take.new.self c.table_of-place.ensures (let count = c.requires.count in let at = c.table_of-place.ensures in omega arith)
    c.index_mut.ensures.value c.take.ensures.rows c.requires.shards

pub returns-clause-rows : goal.returns-clause-rows
returns-clause-rows c =
    changed_rows c.args.id c.table_of-place.result _ (take_turns c.args.id) c.args.tables.now.items c.index_mut.result.now c.take.new.self c.table_of-place.ensures (let count = c.requires.count in let at = c.table_of-place.ensures in omega arith)
    c.index_mut.ensures.value c.take.ensures.rows c.requires.shards

pub returns-clause-row : goal.returns-clause-row
returns-clause-row c =
    c.take.ensures.row
    ∙ found_here c.args.tables.now.items c.args.id c.table_of-place.result c.index_mut.result.now c.table_of-place.ensures (let count = c.requires.count in let at = c.table_of-place.ensures in omega arith)
    c.index_mut.ensures.value c.requires.shards
