use Rattle.std.proofs.Common.{◌≡◌, ◌≤◌, ◌-◌, ℕ, [], length}
use Rattle.edge_index.specs.Ends.{places_at}
use Rattle.edge_index.proofs.ends.empty_order.Given as goal

abbrev pub invariant-shards : goal.invariant-shards
invariant-shards l = record {
  within : length l.order.items ≤ 16;
  none : (shard : ℕ) → places_at l.order.items shard ≡ [];
}

abbrev pub decreases-shards : goal.decreases-shards
decreases-shards l = 16 - length l.order.items
