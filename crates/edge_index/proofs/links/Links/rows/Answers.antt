use Rattle.std.proofs.Common.{rules, tests, ap, ◌∙◌}
use Rattle.std.proofs.lemmas.Iterator.Consumers.{YieldsList-from_filter_map, YieldsList-from_rest, YieldsList-at}
use Rattle.std.proofs.lemmas.Iterator.{items_from_collect}
use Rattle.edge_index.specs.Links.{row_of_entry, all_entries, by_key}
use Rattle.edge_index.proofs.links.Links.rows.Goals as goal

pub returns : goal.returns
returns c =
    rw (← c.self.view_is)
    (items_from_collect c.collect.result c.collect.ensures.ran
    (YieldsList-from_filter_map _ row_of_entry
    (YieldsList-at c.filter_map.ensures.source (YieldsList-from_rest (by_key (all_entries c.self.inside.tables.items)) (c.iter.ensures.rest ∙ (c.in_ok-sorted.ensures ∙ ap (λ tables. by_key (all_entries tables)) c.deref.ensures.value))))
    c.filter_map.ensures.closure (λ x r q k. search (rules, tests))))
