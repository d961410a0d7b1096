use Rattle.std.proofs.Common.{◌∙◌, ◌%◌, refl, sym, ap, arith, None, ℕ}
use Rattle.std.proofs.Math.ListN.{set}
use Rattle.edge_index.specs.Refs.{counts_at}
use Rattle.edge_index.proofs.Counts.{count_set, counts_stay, places_but_one, other_target}
use Rattle.edge_index.specs.Ends.{places_at, has_near}
use Rattle.edge_index.proofs.refs.forget.Goals as goal

pub returns-then-not-has_end-clause-counts : goal.returns-then-not-has_end-clause-counts
returns-then-not-has_end-clause-counts c =
    let updated = count_set c.args.refs.now.items c.shard_of-shard.result c.index_mut.result.now c.swap_remove.new.self c.args.id (None) (c.shard_of-shard.ensures ∙ ap (λ n. n % 16) c.get.ensures.value)
    (let count = c.requires.size in let at = c.shard_of-shard.ensures in omega arith) c.index_mut.ensures.value c.swap_remove.ensures.updates.0 in
    counts_stay (counts_at c.args.refs.now.items) (counts_at (set c.args.refs.now.items c.shard_of-shard.result c.swap_remove.new.self)) c.args.id None refl
    (c.requires.none (sym c.has_end.ensures ∙ c.if-not-has_end.true)) updated

pub returns-then-not-has_end-clause-stay : goal.returns-then-not-has_end-clause-stay
returns-then-not-has_end-clause-stay c = λ other near.
    let updated = count_set c.args.refs.now.items c.shard_of-shard.result c.index_mut.result.now c.swap_remove.new.self c.args.id (None) (c.shard_of-shard.ensures ∙ ap (λ n. n % 16) c.get.ensures.value)
    (let count = c.requires.size in let at = c.shard_of-shard.ensures in omega arith) c.index_mut.ensures.value c.swap_remove.ensures.updates.0 in
    places_but_one (counts_at c.args.refs.now.items) (counts_at (set c.args.refs.now.items c.shard_of-shard.result c.swap_remove.new.self)) c.args.id updated other
    (other_target c.args.id other (λ (n : ℕ). has_near (places_at c.args.inward.now.items) n) (sym c.has_end.ensures ∙ c.if-not-has_end.true) near)
