use Rattle.std.proofs.Common.{arith}
use Rattle.object_shards.proofs.Joined.{rewrite_turns, changed_shards, changed_rows}
use Rattle.object_shards.proofs.tables.rewrite_in.Goals as goal

pub returns-clause-shards : goal.returns-clause-shards
returns-clause-shards c =
    changed_shards c.args.id c.table_of-place.result _ (rewrite_turns c.args.id c.args.at c.args.size) c.args.tables.now.items c.index_mut.result.now c.rewrite.new.self c.table_of-place.ensures (let count = c.requires.count in let at = c.table_of-place.ensures in omega arith)
    c.index_mut.ensures.value c.rewrite.ensures c.requires.shards

pub returns-clause-rows : goal.returns-clause-rows
returns-clause-rows c =
    changed_rows c.args.id c.table_of-place.result _ (rewrite_turns c.args.id c.args.at c.args.size) c.args.tables.now.items c.index_mut.result.now c.rewrite.new.self c.table_of-place.ensures (let count = c.requires.count in let at = c.table_of-place.ensures in omega arith)
    c.index_mut.ensures.value c.rewrite.ensures c.requires.shards
