-- What a table shows of the entries that it keeps in no order.
use Rattle.indexmap.specs.IndexMap.{spare}
use Rattle.object_shards.specs.declared.table.ObjectTable.TheInside.{Inside}
use Rattle.object_shards.specs.Table.{TableSeen, by_id}

abbrev pub table_seen : Inside → TableSeen
table_seen a = record { rows = by_id a.entries.entries; room = spare a.entries }
