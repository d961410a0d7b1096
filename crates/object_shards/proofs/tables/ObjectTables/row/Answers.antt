use Rattle.std.proofs.Common.{arith, ◌∙◌}
use Rattle.object_shards.proofs.Joined.{found_here}
use Rattle.object_shards.proofs.tables.ObjectTables.row.Goals as goal

pub returns : goal.returns
returns c =
    c.row.ensures
    ∙ found_here c.args.self.now.tables.items c.args.id c.table_of-place.result c.index.result.now c.table_of-place.ensures
    (let count = c.args.self.now.count in let at = c.table_of-place.ensures in omega arith) c.index.ensures c.args.self.now.in_shards
