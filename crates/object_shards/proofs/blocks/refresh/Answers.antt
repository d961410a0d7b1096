use Rattle.std.proofs.Common.{◌/◌, arith}
use Rattle.object_shards.proofs.Leasts.{refreshed}
use Rattle.object_shards.proofs.blocks.refresh.Goals as goal

pub returns-clause-leasts : goal.returns-clause-leasts
returns-clause-leasts c =
    refreshed c.args.leasts.now.items c.args.shards.now (c.args.place / 64) c.least_of_block.result
    (let within = c.requires.within in let count = c.requires.count in omega arith) c.requires.others c.least_of_block.ensures
