use Rattle.std.proofs.Common.{◌≡◌, ◌≤◌, length, drop}
use Rattle.object_shards.specs.Blocks.{least_in}
use Rattle.object_shards.proofs.blocks.least_among.Given as goal

abbrev pub invariant-shards : goal.invariant-shards
invariant-shards l = record {
  least : l.least ≡ least_in (drop l.place l.shards);
  within : l.place ≤ length l.shards;
}

abbrev pub decreases-shards : goal.decreases-shards
decreases-shards l = l.place
