use Rattle.std.proofs.Common.{ℕ, ◌≤◌, ◌<◌, ◌-◌, length, get_or}
use Rattle.object_shards.specs.Shards.{dues_of}
use Rattle.object_shards.proofs.blocks.first_due.Given as goal

abbrev pub invariant-ends : goal.invariant-ends
invariant-ends l = record {
  above : l.fn.from ≤ l.from;
  within : l.from ≤ length l.shards;
  passed : (k : ℕ) → l.fn.from ≤ k → k < l.from → l.moment < get_or (dues_of l.shards) k 0;
}

abbrev pub decreases-ends : goal.decreases-ends
decreases-ends l = length l.shards - l.from
