use Rattle.std.proofs.Common.{◌∙◌, ◌%◌, sym, ap, arith}
use Rattle.edge_index.specs.Keys.{edge_eq}
use Rattle.edge_index.specs.Links.{row_found, link_home, entries_of, all_entries}
use Rattle.edge_index.proofs.ByKey.{by_key_found}
use Rattle.edge_index.proofs.Sharded.{found_here}
use Rattle.edge_index.proofs.links.Links.row.Goals as goal

pub returns-in-Some : goal.returns-in-Some
returns-in-Some c =
    let here = found_here entries_of edge_eq link_home c.self.inside.tables.items c.shard_of.result c.index.result.now c.args.key.now (c.shard_of.ensures ∙ ap (λ n. n % 16) c.get.ensures.value)
    (let count = c.self.invariant.0 in let at = c.shard_of.ensures in omega arith) c.index.ensures c.self.invariant.1
    ∙ sym (by_key_found (all_entries c.self.inside.tables.items) c.args.key.now) in
    rw (← c.self.view_is) (c.row_with.ensures ∙ ap (row_found c.args.key.now) (c.in-Some.ensures.value ∙ here))

pub returns-in-None : goal.returns-in-None
returns-in-None c =
    let here = found_here entries_of edge_eq link_home c.self.inside.tables.items c.shard_of.result c.index.result.now c.args.key.now (c.shard_of.ensures ∙ ap (λ n. n % 16) c.get.ensures.value)
    (let count = c.self.invariant.0 in let at = c.shard_of.ensures in omega arith) c.index.ensures c.self.invariant.1
    ∙ sym (by_key_found (all_entries c.self.inside.tables.items) c.args.key.now) in
    rw (← c.self.view_is) (ap (row_found c.args.key.now) (c.in-None.ensures.value ∙ here))
