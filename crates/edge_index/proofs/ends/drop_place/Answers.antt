use Rattle.std.proofs.Common.{arith, None}
use Rattle.edge_index.proofs.Orders.{shard_placed, shard_rises, shard_removed}
use Rattle.edge_index.proofs.ends.drop_place.Goals as goal

pub returns-clause-placed : goal.returns-clause-placed
returns-clause-placed c =
    shard_placed c.args.order.now.items c.shard_of-shard.result c.index_mut.result.now c.remove.new.self c.args.place.now None c.shard_of-shard.ensures (let count = c.requires in let at = c.shard_of-shard.ensures in omega arith)
    c.index_mut.ensures.value c.remove.ensures.updates.0

pub returns-clause-rise : goal.returns-clause-rise
returns-clause-rise c = shard_rises c.args.order.now.items c.shard_of-shard.result c.remove.new.self (let count = c.requires in let at = c.shard_of-shard.ensures in omega arith) c.remove.ensures.ordered

pub returns-clause-stand : goal.returns-clause-stand
returns-clause-stand c = λ end.
    shard_removed end c.args.order.now.items c.shard_of-shard.result c.index_mut.result.now c.remove.new.self c.args.place.now (let count = c.requires in let at = c.shard_of-shard.ensures in omega arith)
    c.index_mut.ensures.value c.remove.ensures.entries
