use Rattle.std.proofs.Common.{◌≤◌, ◌<◌, ◌-◌, length}
use Rattle.object_shards.specs.Shards.{shard_place}
use Rattle.object_shards.proofs.shards.place_of.Given as goal

abbrev pub invariant-halves : goal.invariant-halves
invariant-halves l = record {
  low : l.low ≤ shard_place l.fn.id l.shards;
  high : shard_place l.fn.id l.shards < l.high;
  within : l.high ≤ length l.shards;
}

abbrev pub decreases-halves : goal.decreases-halves
decreases-halves l = l.high - l.low
