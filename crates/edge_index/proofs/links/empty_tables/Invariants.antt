use Rattle.std.proofs.Common.{◌≡◌, ◌≤◌, ◌-◌, ℕ, [], length}
use Rattle.edge_index.specs.Links.{entries_at}
use Rattle.edge_index.proofs.links.empty_tables.Given as goal

abbrev pub invariant-shards : goal.invariant-shards
invariant-shards l = record {
  within : length l.tables.items ≤ 16;
  none : (shard : ℕ) → entries_at l.tables.items shard ≡ [];
}

abbrev pub decreases-shards : goal.decreases-shards
decreases-shards l = 16 - length l.tables.items
