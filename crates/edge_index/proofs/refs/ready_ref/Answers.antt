use Rattle.std.proofs.Common.{◌∙◌, ◌%◌, refl, sym, ap, arith, Some}
use Rattle.std.proofs.Math.ListN.{set}
use Rattle.std.specs.Prelude.{is_some}
use Rattle.edge_index.specs.Refs.{counts_in, counts_at, refs_at, refs_of}
use Rattle.edge_index.proofs.Counts.{count_set, ref_here, counts_stay, none_counts_none, places_grow, place_made}
use Rattle.edge_index.proofs.Sharded.{shard_same}
use Rattle.edge_index.proofs.refs.ready_ref.Goals as goal

pub returns-in_ok-insert-clause-counts : goal.returns-in_ok-insert-clause-counts
returns-in_ok-insert-clause-counts c =
    let updated = count_set c.args.refs.now.items c.shard_of-shard.result c.index_mut.result.now c.insert.new.self c.args.id (Some 0) (c.shard_of-shard.ensures ∙ ap (λ n. n % 16) c.get.ensures.value)
    (let count = c.requires in let at = c.shard_of-shard.ensures in omega arith) c.index_mut.ensures.value c.in_ok-insert.ensures.updates.0 in
    let here = ref_here c.args.refs.now.items c.shard_of-shard.result c.index.result.now c.args.id (c.shard_of-shard.ensures ∙ ap (λ n. n % 16) c.get.ensures.value)
    (let count = c.requires in let at = c.shard_of-shard.ensures in omega arith) c.index.ensures in
    counts_stay (counts_at c.args.refs.now.items) (counts_at (set c.args.refs.now.items c.shard_of-shard.result c.insert.new.self)) c.args.id (Some 0) refl
    (none_counts_none (counts_at c.args.refs.now.items) c.args.id (ap is_some (sym here) ∙ (sym c.contains_key.ensures ∙ c.if-not-contains_key.true))) updated

pub returns-in_ok-insert-clause-stay : goal.returns-in_ok-insert-clause-stay
returns-in_ok-insert-clause-stay c =
    let updated = count_set c.args.refs.now.items c.shard_of-shard.result c.index_mut.result.now c.insert.new.self c.args.id (Some 0) (c.shard_of-shard.ensures ∙ ap (λ n. n % 16) c.get.ensures.value)
    (let count = c.requires in let at = c.shard_of-shard.ensures in omega arith) c.index_mut.ensures.value c.in_ok-insert.ensures.updates.0 in
    places_grow (counts_at c.args.refs.now.items) (counts_at (set c.args.refs.now.items c.shard_of-shard.result c.insert.new.self)) c.args.id 0 updated

pub returns-in_ok-insert-clause-place : goal.returns-in_ok-insert-clause-place
returns-in_ok-insert-clause-place c =
    let updated = count_set c.args.refs.now.items c.shard_of-shard.result c.index_mut.result.now c.insert.new.self c.args.id (Some 0) (c.shard_of-shard.ensures ∙ ap (λ n. n % 16) c.get.ensures.value)
    (let count = c.requires in let at = c.shard_of-shard.ensures in omega arith) c.index_mut.ensures.value c.in_ok-insert.ensures.updates.0 in
    place_made (counts_at c.args.refs.now.items) (counts_at (set c.args.refs.now.items c.shard_of-shard.result c.insert.new.self)) c.args.id 0 updated

pub returns-else-not-contains_key-clause-place : goal.returns-else-not-contains_key-clause-place
returns-else-not-contains_key-clause-place c =
    let here = ref_here c.args.refs.now.items c.shard_of-shard.result c.index.result.now c.args.id (c.shard_of-shard.ensures ∙ ap (λ n. n % 16) c.get.ensures.value)
    (let count = c.requires in let at = c.shard_of-shard.ensures in omega arith) c.index.ensures in
    ap is_some (sym here) ∙ (sym c.contains_key.ensures ∙ c.if-not-contains_key.false)

pub returns-in_err-insert-clause-counts : goal.returns-in_err-insert-clause-counts
returns-in_err-insert-clause-counts c = λ other.
    ap (λ at. refs_of at other) (shard_same counts_in c.args.refs.now.items c.shard_of-shard.result c.index_mut.result.now c.insert.new.self
    (let count = c.requires in let at = c.shard_of-shard.ensures in omega arith) c.index_mut.ensures.value c.in_err-insert.ensures.err)

pub returns-in_err-insert-clause-stay : goal.returns-in_err-insert-clause-stay
returns-in_err-insert-clause-stay c = λ other was.
    ap (λ at. is_some (refs_at at other)) (shard_same counts_in c.args.refs.now.items c.shard_of-shard.result c.index_mut.result.now c.insert.new.self
    (let count = c.requires in let at = c.shard_of-shard.ensures in omega arith) c.index_mut.ensures.value c.in_err-insert.ensures.err) ∙ was
