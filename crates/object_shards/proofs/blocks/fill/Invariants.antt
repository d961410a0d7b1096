use Rattle.std.proofs.Common.{◌≡◌, ℕ, ◌<◌, get_or}
use Rattle.object_shards.specs.Blocks.{least_in, block_of}
use Rattle.object_shards.proofs.blocks.fill.Given as goal

abbrev pub invariant-loop-block : goal.invariant-loop-block
invariant-loop-block l = (k : ℕ) → k < l.block → get_or l.leasts k 0 ≡ least_in (block_of k l.shards)
