use Rattle.std.proofs.Common.{arith}
use Rattle.object_shards.proofs.Leasts.{filled_more}
use Rattle.object_shards.proofs.blocks.fill.Goals as goal

pub loop-block-preserved : goal.loop-block-preserved
loop-block-preserved c =
    filled_more c.loop-block.leasts c.args.shards.now c.loop-block.block c.least_of_block.result (omega arith) c.loop-block.invariant c.least_of_block.ensures
