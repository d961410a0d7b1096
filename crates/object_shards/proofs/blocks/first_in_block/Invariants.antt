use Rattle.std.proofs.Common.{ℕ, ◌≤◌, ◌<◌, get_or}
use Rattle.object_shards.specs.Shards.{dues_of}
use Rattle.object_shards.proofs.blocks.first_in_block.Given as goal

abbrev pub invariant-loop-place : goal.invariant-loop-place
invariant-loop-place l = record {
  above : l.from ≤ l.place;
  passed : (k : ℕ) → l.from ≤ k → k < l.place → l.moment < get_or (dues_of l.shards) k 0;
}
