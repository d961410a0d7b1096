use Rattle.std.proofs.Common.{◌∙◌, ◌*◌, List, ap, refl}
use Rattle.object_shards.specs.declared.shard.Shard.{Shard}
use Rattle.object_shards.specs.Blocks.{least_in}
use Rattle.object_shards.proofs.Leasts.{block_range}
use Rattle.object_shards.proofs.blocks.least_of_block.Goals as goal

pub returns : goal.returns
returns c = c.least_among.ensures ∙ ap (λ (ss : List Shard). least_in ss)
    (block_range c.args.shards.now c.args.block (64 * c.args.block) c.block_end.result refl c.block_end.ensures c.requires)
