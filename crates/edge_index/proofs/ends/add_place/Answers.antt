use Rattle.std.proofs.Common.{ℕ, arith, sym, subst, List, Some}
use Rattle.std.proofs.Math.ListN.{set}
use Rattle.edge_index.specs.Ends.{Place, places_of, places_at, IsOrderOf}
use Rattle.edge_index.proofs.Sharded.{shard_same}
use Rattle.edge_index.proofs.Orders.{order_inserted, shard_placed, shard_rises, shard_inserted, placed_there}
use Rattle.edge_index.proofs.ends.add_place.Goals as goal

pub returns-clause-keeps : goal.returns-clause-keeps
returns-clause-keeps c = λ end spare links apart at may.
    order_inserted end spare links (places_at c.args.order.now.items) _ c.args.place c.args.key apart at may
    (shard_rises c.args.order.now.items c.shard_of-shard.result c.insert.new.self (let count = c.requires in let at = c.shard_of-shard.ensures in omega arith) c.in_ok-insert.ensures.ordered)
    (shard_inserted end c.args.order.now.items c.shard_of-shard.result c.index_mut.result.now c.insert.new.self c.args.place c.args.key (sym at) (let count = c.requires in let at = c.shard_of-shard.ensures in omega arith)
    c.index_mut.ensures.value c.in_ok-insert.ensures.entries)
    (shard_placed c.args.order.now.items c.shard_of-shard.result c.index_mut.result.now c.insert.new.self c.args.place (Some c.args.key) c.shard_of-shard.ensures (let count = c.requires in let at = c.shard_of-shard.ensures in omega arith)
    c.index_mut.ensures.value c.in_ok-insert.ensures.updates.0)

pub returns-clause-there : goal.returns-clause-there
returns-clause-there c =
    placed_there (places_at c.args.order.now.items) (places_at (set c.args.order.now.items c.shard_of-shard.result c.insert.new.self)) c.args.place c.args.key
    (shard_placed c.args.order.now.items c.shard_of-shard.result c.index_mut.result.now c.insert.new.self c.args.place (Some c.args.key) c.shard_of-shard.ensures (let count = c.requires in let at = c.shard_of-shard.ensures in omega arith)
    c.index_mut.ensures.value c.in_ok-insert.ensures.updates.0)

pub returns-in_err-insert-clause-keeps : goal.returns-in_err-insert-clause-keeps
returns-in_err-insert-clause-keeps c = λ end spare links apart at may o.
    subst (λ (order : ℕ → List Place). IsOrderOf end spare links order)
    (sym (shard_same places_of c.args.order.now.items c.shard_of-shard.result c.index_mut.result.now c.insert.new.self (let count = c.requires in let at = c.shard_of-shard.ensures in omega arith) c.index_mut.ensures.value c.in_err-insert.ensures.err)) o
