use Rattle.std.proofs.Common.{◌∙◌, ◌%◌, ◌+◌, ◌<◌, sym, ap, subst, arith, Some, ℕ, Option}
use Rattle.std.proofs.Math.ListN.{set}
use Rattle.std.specs.Prelude.{is_some}
use Rattle.std.specs.Option.{unwrap_or}
use Rattle.edge_index.specs.Refs.{counts_at, count_in}
use Rattle.edge_index.proofs.Counts.{count_set, ref_here, count_more, places_stay}
use Rattle.edge_index.proofs.refs.count_up.Goals as goal

pub add_ref-requires-clause-place : goal.add_ref-requires-clause-place
add_ref-requires-clause-place c =
    ap is_some (ref_here c.args.refs.now.items c.shard_of-shard.result c.index_mut.result.now c.args.id (c.shard_of-shard.ensures ∙ ap (λ n. n % 16) c.get.ensures.value)
    (let count = c.requires.size in let at = c.shard_of-shard.ensures in omega arith) c.index_mut.ensures.value) ∙ c.requires.place

pub add_ref-requires-clause-room : goal.add_ref-requires-clause-room
add_ref-requires-clause-room c =
    subst (λ (n : ℕ). n < 4294967295) (sym (ap (λ (found : Option ℕ). unwrap_or found 0) (ref_here c.args.refs.now.items c.shard_of-shard.result c.index_mut.result.now c.args.id (c.shard_of-shard.ensures ∙ ap (λ n. n % 16) c.get.ensures.value)
    (let count = c.requires.size in let at = c.shard_of-shard.ensures in omega arith) c.index_mut.ensures.value))) c.requires.room

pub returns-then-counts-clause-count : goal.returns-then-counts-clause-count
returns-then-counts-clause-count c =
    let updated = count_set c.args.refs.now.items c.shard_of-shard.result c.index_mut.result.now c.add_ref.new.refs c.args.id (Some (count_in c.index_mut.result.now.entries c.args.id + 1)) (c.shard_of-shard.ensures ∙ ap (λ n. n % 16) c.get.ensures.value)
    (let count = c.requires.size in let at = c.shard_of-shard.ensures in omega arith) c.index_mut.ensures.value c.add_ref.ensures in
    count_more (counts_at c.args.refs.now.items) (counts_at (set c.args.refs.now.items c.shard_of-shard.result c.add_ref.new.refs)) c.args.id (count_in c.index_mut.result.now.entries c.args.id + 1) c.args.counts c.if-counts.true
    (ap (λ (found : Option ℕ). unwrap_or found 0 + 1) (ref_here c.args.refs.now.items c.shard_of-shard.result c.index_mut.result.now c.args.id (c.shard_of-shard.ensures ∙ ap (λ n. n % 16) c.get.ensures.value)
    (let count = c.requires.size in let at = c.shard_of-shard.ensures in omega arith) c.index_mut.ensures.value)) updated

pub returns-then-counts-clause-places : goal.returns-then-counts-clause-places
returns-then-counts-clause-places c =
    let updated = count_set c.args.refs.now.items c.shard_of-shard.result c.index_mut.result.now c.add_ref.new.refs c.args.id (Some (count_in c.index_mut.result.now.entries c.args.id + 1)) (c.shard_of-shard.ensures ∙ ap (λ n. n % 16) c.get.ensures.value)
    (let count = c.requires.size in let at = c.shard_of-shard.ensures in omega arith) c.index_mut.ensures.value c.add_ref.ensures in
    places_stay (counts_at c.args.refs.now.items) (counts_at (set c.args.refs.now.items c.shard_of-shard.result c.add_ref.new.refs)) c.args.id (count_in c.index_mut.result.now.entries c.args.id + 1) c.requires.place updated
