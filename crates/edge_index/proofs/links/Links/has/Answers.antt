use Rattle.std.proofs.Common.{◌∙◌, ◌%◌, ap, sym, arith}
use Rattle.std.specs.Prelude.{is_some}
use Rattle.edge_index.specs.Keys.{edge_eq}
use Rattle.edge_index.specs.Links.{link_home, entries_of, all_entries}
use Rattle.edge_index.proofs.ByKey.{found_room}
use Rattle.edge_index.proofs.Sharded.{found_here}
use Rattle.edge_index.proofs.links.Links.has.Goals as goal

pub returns : goal.returns
returns c =
    rw (← c.self.view_is)
    (c.contains_key.ensures
    ∙ (ap is_some (found_here entries_of edge_eq link_home c.self.inside.tables.items c.shard_of.result c.index.result.now c.args.key.now (c.shard_of.ensures ∙ ap (λ n. n % 16) c.get.ensures.value) (let count = c.self.invariant.0 in let at = c.shard_of.ensures in omega arith) c.index.ensures c.self.invariant.1)
    ∙ sym (found_room (all_entries c.self.inside.tables.items) c.args.key.now)))
