use Rattle.std.proofs.Common.{◌≡◌, ◌≤◌, length, drop}
use Rattle.delf_model.specs.declared.rows.EdgeKey.{EdgeKey}
use Rattle.edge_index.specs.Links.{found, all_entries}
use Rattle.edge_index.proofs.links.one_table.Given as goal

abbrev pub invariant-shards : goal.invariant-shards
invariant-shards l = record {
  all : (key : EdgeKey) → found l.all.entries key ≡ found (all_entries (drop l.shard l.tables)) key;
  within : l.shard ≤ length l.tables;
}

abbrev pub decreases-shards : goal.decreases-shards
decreases-shards l = l.shard
