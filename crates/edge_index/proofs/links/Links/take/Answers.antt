use Rattle.std.proofs.Common.{◌∙◌, ◌%◌, sym, ap, arith, None}
use Rattle.std.proofs.Math.ListN.{set}
use Rattle.edge_index.specs.Keys.{edge_eq}
use Rattle.edge_index.specs.Links.{row_found, link_home, entries_of, all_entries}
use Rattle.edge_index.proofs.ByKey.{homes, by_key_rise, by_key_removed, by_key_linked, by_key_found}
use Rattle.edge_index.proofs.Sharded.{found_here, in_shards_set, found_all_set, set_len}
use Rattle.edge_index.proofs.links.Links.take.Goals as goal
use Rattle.edge_index.proofs.links.Links.take.Goals.{in-Some, in-None}

pub returns-clause-entries : goal.returns-clause-entries
returns-clause-entries c =
    let changed = found_all_set entries_of edge_eq link_home homes c.self.inside.tables.items c.shard_of-shard.result c.index_mut.result.now c.swap_remove.new.self c.args.key.now (None) (c.shard_of-shard.ensures ∙ ap (λ n. n % 16) c.get.ensures.value)
    (let count = c.self.invariant.0 in let at = c.shard_of-shard.ensures in omega arith) c.index_mut.ensures.value c.swap_remove.ensures.updates.0 c.self.invariant.1 in
    rw (← c.self.view_is) (by_key_removed (all_entries c.self.inside.tables.items) (all_entries (set c.self.inside.tables.items c.shard_of-shard.result c.swap_remove.new.self)) c.args.key.now changed)

pub returns-clause-linked : goal.returns-clause-linked
returns-clause-linked c =
    let changed = found_all_set entries_of edge_eq link_home homes c.self.inside.tables.items c.shard_of-shard.result c.index_mut.result.now c.swap_remove.new.self c.args.key.now (None) (c.shard_of-shard.ensures ∙ ap (λ n. n % 16) c.get.ensures.value)
    (let count = c.self.invariant.0 in let at = c.shard_of-shard.ensures in omega arith) c.index_mut.ensures.value c.swap_remove.ensures.updates.0 c.self.invariant.1 in
    rw (← c.self.view_is) (by_key_linked (all_entries c.self.inside.tables.items) (all_entries (set c.self.inside.tables.items c.shard_of-shard.result c.swap_remove.new.self)) c.args.key.now (None) changed)

pub returns-clause-rise : goal.returns-clause-rise
returns-clause-rise c = by_key_rise (all_entries (set c.self.inside.tables.items c.shard_of-shard.result c.swap_remove.new.self))

pub returns-clause-row : goal.returns-clause-row
returns-clause-row c =
    let got = c.swap_remove.ensures.value
    ∙ (found_here entries_of edge_eq link_home c.self.inside.tables.items c.shard_of-shard.result c.index_mut.result.now c.args.key.now (c.shard_of-shard.ensures ∙ ap (λ n. n % 16) c.get.ensures.value)
    (let count = c.self.invariant.0 in let at = c.shard_of-shard.ensures in omega arith) c.index_mut.ensures.value c.self.invariant.1
    ∙ sym (by_key_found (all_entries c.self.inside.tables.items) c.args.key.now)) in
    rw (← c.self.view_is)
    (elim c.match-swap_remove.branch [
      | in-Some w ↦ w.result-is ∙ (w.row_with.ensures ∙ ap (row_found c.args.key.now) (sym w.in-Some.is ∙ got))
      | in-None w ↦ w.result-is ∙ ap (row_found c.args.key.now) (sym w.in-None.is ∙ got)
    ])

pub invariant_of-self : goal.invariant_of-self
invariant_of-self c = (
  set_len c.self.inside.tables.items c.shard_of-shard.result c.swap_remove.new.self ∙ c.self.invariant.0,
  in_shards_set entries_of edge_eq link_home homes c.self.inside.tables.items c.shard_of-shard.result c.index_mut.result.now c.swap_remove.new.self c.args.key.now (None) (c.shard_of-shard.ensures ∙ ap (λ n. n % 16) c.get.ensures.value)
      (let count = c.self.invariant.0 in let at = c.shard_of-shard.ensures in omega arith) c.index_mut.ensures.value c.swap_remove.ensures.updates.0 c.self.invariant.1,
)
