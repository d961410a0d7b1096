use Rattle.std.proofs.Common.{◌∙◌, ◌%◌, ap, arith, rules, sym, tests, List}
use Rattle.std.proofs.lemmas.Iterator.Adapters.{option_map_id}
use Rattle.std.proofs.lemmas.Iterator.Consumers.{nth_from_yields_List, YieldsList-from_filter_map, YieldsList-from_rest, YieldsList-at}
use Rattle.std.specs.Prelude.{filter}
use Rattle.std.specs.List.{slice_get}
use Rattle.delf_model.specs.declared.rows.EdgeKey.{EdgeKey}
use Rattle.edge_index.specs.declared.ends.EndKey.{EndKey}
use Rattle.edge_index.specs.Links.{row_in}
use Rattle.edge_index.specs.Ends.{Place, is_near, rows_in, places_of}
use Rattle.edge_index.proofs.Sharded.{shard_at}
use Rattle.edge_index.proofs.ends.row_near.Goals as goal

pub returns : goal.returns
returns c =
    sym (option_map_id c.nth.result)
    ∙ (nth_from_yields_List c.nth.result _ c.args.i c.nth.ensures.ran
    (YieldsList-from_filter_map _ (λ (place : EndKey × EdgeKey). row_in c.args.links.now.entries place.1)
    (YieldsList-at c.filter_map.ensures.source (YieldsList-from_rest (filter (is_near c.args.id) c.index.result.now.entries) c.places_near.ensures.rest))
    c.filter_map.ensures.closure (λ x r q k. search (rules, tests)))
    ∙ ap (λ (ps : List Place). slice_get (rows_in c.args.links.now.entries ps c.args.id) c.args.i)
    (shard_at places_of c.args.order.now.items c.shard_of.result (c.args.id % 16) c.index.result.now (c.shard_of.ensures ∙ ap (λ n. n % 16) c.get.ensures.value)
    (let count = c.requires in let at = c.shard_of.ensures in omega arith) c.index.ensures))
