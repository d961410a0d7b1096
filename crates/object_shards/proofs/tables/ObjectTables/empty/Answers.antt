use Rattle.object_shards.proofs.Joined.{none_is_joined}
use Rattle.object_shards.proofs.tables.ObjectTables.empty.Goals as goal

pub returns : goal.returns
returns c = none_is_joined c.in_ok-tables.tables.items c.in_ok-tables.ensures.none
