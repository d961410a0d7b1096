-- What tables of links show of the entries that they keep in no order.
use Rattle.std.specs.Prelude.{◌≡◌, length}
use Rattle.edge_index.specs.declared.links.Links.TheInside.{Inside}
use Rattle.edge_index.specs.Keys.{edge_eq}
use Rattle.edge_index.specs.Links.{LinkTable, link_home, entries_of, all_entries, by_key}
use Rattle.edge_index.specs.Shards.{InShards}

abbrev pub links_seen : Inside → LinkTable
links_seen a = record { entries = by_key (all_entries a.tables.items) }

-- sixteen tables, each key in that of its source's shard
abbrev pub AreSharded : Inside → Type 0
AreSharded a = (length a.tables.items ≡ 16) × InShards entries_of edge_eq link_home a.tables.items
