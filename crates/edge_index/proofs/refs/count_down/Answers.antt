use Rattle.std.proofs.Common.{◌∙◌, ◌%◌, ◌-◌, ◌<◌, sym, ap, subst, arith, Some, ℕ, Option}
use Rattle.std.proofs.Math.ListN.{set}
use Rattle.std.specs.Option.{unwrap_or}
use Rattle.edge_index.specs.Refs.{counts_at, count_in}
use Rattle.edge_index.proofs.Counts.{count_set, ref_here, count_less, counted_there, places_stay}
use Rattle.edge_index.proofs.refs.count_down.Goals as goal

pub drop_ref-requires : goal.drop_ref-requires
drop_ref-requires c =
    subst (λ (n : ℕ). 0 < n) (sym (ap (λ (found : Option ℕ). unwrap_or found 0) (ref_here c.args.refs.now.items c.shard_of-shard.result c.index_mut.result.now c.args.id (c.shard_of-shard.ensures ∙ ap (λ n. n % 16) c.get.ensures.value)
    (let count = c.requires.size in let at = c.shard_of-shard.ensures in omega arith) c.index_mut.ensures.value))) (c.requires.some c.if-counts.true)

pub returns-then-counts-clause-count : goal.returns-then-counts-clause-count
returns-then-counts-clause-count c =
    let updated = count_set c.args.refs.now.items c.shard_of-shard.result c.index_mut.result.now c.drop_ref.new.refs c.args.id (Some (count_in c.index_mut.result.now.entries c.args.id - 1)) (c.shard_of-shard.ensures ∙ ap (λ n. n % 16) c.get.ensures.value)
    (let count = c.requires.size in let at = c.shard_of-shard.ensures in omega arith) c.index_mut.ensures.value c.drop_ref.ensures in
    let same = ap (λ (found : Option ℕ). unwrap_or found 0) (ref_here c.args.refs.now.items c.shard_of-shard.result c.index_mut.result.now c.args.id (c.shard_of-shard.ensures ∙ ap (λ n. n % 16) c.get.ensures.value)
    (let count = c.requires.size in let at = c.shard_of-shard.ensures in omega arith) c.index_mut.ensures.value) in
    let some = c.requires.some c.if-counts.true in
    count_less (counts_at c.args.refs.now.items) (counts_at (set c.args.refs.now.items c.shard_of-shard.result c.drop_ref.new.refs)) c.args.id (count_in c.index_mut.result.now.entries c.args.id - 1) c.args.counts c.if-counts.true (omega arith) updated

pub returns-then-counts-clause-places : goal.returns-then-counts-clause-places
returns-then-counts-clause-places c =
    let updated = count_set c.args.refs.now.items c.shard_of-shard.result c.index_mut.result.now c.drop_ref.new.refs c.args.id (Some (count_in c.index_mut.result.now.entries c.args.id - 1)) (c.shard_of-shard.ensures ∙ ap (λ n. n % 16) c.get.ensures.value)
    (let count = c.requires.size in let at = c.shard_of-shard.ensures in omega arith) c.index_mut.ensures.value c.drop_ref.ensures in
    places_stay (counts_at c.args.refs.now.items) (counts_at (set c.args.refs.now.items c.shard_of-shard.result c.drop_ref.new.refs)) c.args.id (count_in c.index_mut.result.now.entries c.args.id - 1) (counted_there (counts_at c.args.refs.now.items) c.args.id (c.requires.some c.if-counts.true)) updated
