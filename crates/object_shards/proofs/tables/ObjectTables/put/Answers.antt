use Rattle.object_shards.proofs.Joined.{joined_rise}
use Rattle.object_shards.proofs.tables.ObjectTables.put.Goals as goal

pub returns-clause-rose : goal.returns-clause-rose
returns-clause-rose c = joined_rise c.args.self.now.tables.items
