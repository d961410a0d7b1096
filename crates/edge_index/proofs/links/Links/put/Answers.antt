use Rattle.std.proofs.Common.{◌≡◌, ◌∙◌, ◌%◌, true, sym, ap, subst, arith, Some}
use Rattle.std.proofs.Math.ListN.{set}
use Rattle.std.specs.Prelude.{is_some}
use Rattle.edge_index.specs.Keys.{edge_eq}
use Rattle.edge_index.specs.Links.{LinkTable, has_room, link_of, link_home, entries_of, all_entries}
use Rattle.edge_index.proofs.ByKey.{homes, by_key_set, found_room}
use Rattle.edge_index.proofs.Sharded.{found_here, in_shards_set, found_all_set, set_len}
use Rattle.edge_index.proofs.links.Links.put.Goals as goal

pub write_link-requires : goal.write_link-requires
write_link-requires c =
    let room = subst (λ (seen : LinkTable). has_room seen.entries c.args.row.now.key ≡ true) (sym c.self.view_is) c.requires in
    ap is_some (found_here entries_of edge_eq link_home c.self.inside.tables.items c.shard_of-shard.result c.index_mut.result.now c.args.row.now.key (c.shard_of-shard.ensures ∙ ap (λ n. n % 16) c.get.ensures.value)
    (let count = c.self.invariant.0 in let at = c.shard_of-shard.ensures in omega arith) c.index_mut.ensures.value c.self.invariant.1)
    ∙ (sym (found_room (all_entries c.self.inside.tables.items) c.args.row.now.key) ∙ room)

pub returns : goal.returns
returns c =
    let room = subst (λ (seen : LinkTable). has_room seen.entries c.args.row.now.key ≡ true) (sym c.self.view_is) c.requires in
    let changed = found_all_set entries_of edge_eq link_home homes c.self.inside.tables.items c.shard_of-shard.result c.index_mut.result.now c.write_link.new.table c.args.row.now.key (Some (Some (link_of c.args.row.now))) (c.shard_of-shard.ensures ∙ ap (λ n. n % 16) c.get.ensures.value)
    (let count = c.self.invariant.0 in let at = c.shard_of-shard.ensures in omega arith) c.index_mut.ensures.value c.write_link.ensures c.self.invariant.1 in
    rw (← c.self.view_is)
    (by_key_set (all_entries c.self.inside.tables.items) (all_entries (set c.self.inside.tables.items c.shard_of-shard.result c.write_link.new.table)) c.args.row.now.key (Some (link_of c.args.row.now)) room changed)

pub invariant_of-self : goal.invariant_of-self
invariant_of-self c = (
  set_len c.self.inside.tables.items c.shard_of-shard.result c.write_link.new.table ∙ c.self.invariant.0,
  in_shards_set entries_of edge_eq link_home homes c.self.inside.tables.items c.shard_of-shard.result c.index_mut.result.now c.write_link.new.table c.args.row.now.key (Some (Some (link_of c.args.row.now))) (c.shard_of-shard.ensures ∙ ap (λ n. n % 16) c.get.ensures.value)
      (let count = c.self.invariant.0 in let at = c.shard_of-shard.ensures in omega arith) c.index_mut.ensures.value c.write_link.ensures c.self.invariant.1,
)
