use Rattle.std.proofs.Common.{◌≡◌, ◌≤◌, ◌-◌, ℕ, [], length}
use Rattle.edge_index.specs.Refs.{counts_at}
use Rattle.edge_index.proofs.refs.empty_refs.Given as goal

abbrev pub invariant-shards : goal.invariant-shards
invariant-shards l = record {
  within : length l.refs.items ≤ 16;
  none : (shard : ℕ) → counts_at l.refs.items shard ≡ [];
}

abbrev pub decreases-shards : goal.decreases-shards
decreases-shards l = 16 - length l.refs.items
