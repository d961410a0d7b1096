use Rattle.std.proofs.Common.{◌∙◌}
use Rattle.edge_index.specs.Links.{all_entries}
use Rattle.edge_index.proofs.ByKey.{sorted_is}
use Rattle.edge_index.proofs.links.sorted_table.Goals as goal

pub returns : goal.returns
returns c =
    sorted_is (all_entries c.args.tables.now) c.sort_keys.new.self.entries c.in_ok-sort_keys.ensures.sorted c.in_ok-sort_keys.ensures.unique
    (λ q. c.in_ok-sort_keys.ensures.reordered.2 q ∙ c.in_ok-all.ensures q)
