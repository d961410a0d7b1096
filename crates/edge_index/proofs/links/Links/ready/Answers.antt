use Rattle.std.proofs.Common.{◌∙◌, ◌%◌, ap, arith, Some, None}
use Rattle.std.proofs.Math.ListN.{set}
use Rattle.edge_index.specs.Keys.{edge_eq}
use Rattle.edge_index.specs.Links.{link_home, entries_of, all_entries, by_key}
use Rattle.edge_index.proofs.ByKey.{homes, by_key_rise, by_key_inserted, by_key_linked}
use Rattle.edge_index.proofs.Sharded.{on_err, all_same, in_shards_same, in_shards_set, found_all_set, set_len}
use Rattle.edge_index.proofs.links.Links.ready.Goals as goal

pub returns-clause-entries : goal.returns-clause-entries
returns-clause-entries c =
    let changed = found_all_set entries_of edge_eq link_home homes c.self.inside.tables.items c.shard_of-shard.result c.index_mut.result.now c.insert.new.self c.args.key (Some None) (c.shard_of-shard.ensures ∙ ap (λ n. n % 16) c.get.ensures.value)
    (let count = c.self.invariant.0 in let at = c.shard_of-shard.ensures in omega arith) c.index_mut.ensures.value c.in_ok-insert.ensures.updates.0 c.self.invariant.1 in
    rw (← c.self.view_is) (by_key_inserted (all_entries c.self.inside.tables.items) (all_entries (set c.self.inside.tables.items c.shard_of-shard.result c.insert.new.self)) c.args.key None changed)

pub returns-clause-linked : goal.returns-clause-linked
returns-clause-linked c =
    let changed = found_all_set entries_of edge_eq link_home homes c.self.inside.tables.items c.shard_of-shard.result c.index_mut.result.now c.insert.new.self c.args.key (Some None) (c.shard_of-shard.ensures ∙ ap (λ n. n % 16) c.get.ensures.value)
    (let count = c.self.invariant.0 in let at = c.shard_of-shard.ensures in omega arith) c.index_mut.ensures.value c.in_ok-insert.ensures.updates.0 c.self.invariant.1 in
    rw (← c.self.view_is) (by_key_linked (all_entries c.self.inside.tables.items) (all_entries (set c.self.inside.tables.items c.shard_of-shard.result c.insert.new.self)) c.args.key (Some None) changed)

pub returns-clause-rise : goal.returns-clause-rise
returns-clause-rise c = by_key_rise (all_entries (set c.self.inside.tables.items c.shard_of-shard.result c.insert.new.self))

pub invariant_of-self-2 : goal.invariant_of-self-2
invariant_of-self-2 c = (
  set_len c.self.inside.tables.items c.shard_of-shard.result c.insert.new.self ∙ c.self.invariant.0,
  in_shards_set entries_of edge_eq link_home homes c.self.inside.tables.items c.shard_of-shard.result c.index_mut.result.now c.insert.new.self c.args.key (Some None) (c.shard_of-shard.ensures ∙ ap (λ n. n % 16) c.get.ensures.value)
      (let count = c.self.invariant.0 in let at = c.shard_of-shard.ensures in omega arith) c.index_mut.ensures.value c.in_ok-insert.ensures.updates.0 c.self.invariant.1,
)

pub returns-in_err-insert-clause-rise : goal.returns-in_err-insert-clause-rise
returns-in_err-insert-clause-rise c = by_key_rise (all_entries (set c.self.inside.tables.items c.shard_of-shard.result c.insert.new.self))

pub returns-in_err-insert-clause-err : goal.returns-in_err-insert-clause-err
returns-in_err-insert-clause-err c =
    rw (← c.self.view_is)
    (on_err c.from_residual.result _ (ap by_key (all_same entries_of c.self.inside.tables.items c.shard_of-shard.result c.index_mut.result.now c.insert.new.self
    (let count = c.self.invariant.0 in let at = c.shard_of-shard.ensures in omega arith) c.index_mut.ensures.value c.in_err-insert.ensures.err)))

pub invariant_of-self : goal.invariant_of-self
invariant_of-self c = (
  set_len c.self.inside.tables.items c.shard_of-shard.result c.insert.new.self ∙ c.self.invariant.0,
  in_shards_same entries_of edge_eq link_home c.self.inside.tables.items c.shard_of-shard.result c.index_mut.result.now c.insert.new.self
      (let count = c.self.invariant.0 in let at = c.shard_of-shard.ensures in omega arith) c.index_mut.ensures.value c.in_err-insert.ensures.err c.self.invariant.1,
)
