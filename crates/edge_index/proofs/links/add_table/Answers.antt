use Rattle.std.proofs.Common.{◌∙◌, ap, refl, List}
use Rattle.std.proofs.lemmas.Iterator.Adapters.{fact_from_extend}
use Rattle.std.proofs.lemmas.Iterator.Consumers.{YieldsList-from_rest, YieldsList-at}
use Rattle.std.proofs.lemmas.Map.Made.{update_all_distinct}
use Rattle.std.specs.Map.{update_all}
use Rattle.std.specs.Map.Iter.{deref_pair}
use Rattle.edge_index.specs.Keys.{edge_eq}
use Rattle.edge_index.specs.Links.{Entry, found}
use Rattle.edge_index.proofs.ByKey.{edge_laws}
use Rattle.edge_index.proofs.links.add_table.Goals as goal

pub returns : goal.returns
returns c =
    fact_from_extend deref_pair c.extend.result c.extend.ensures.ran
    (λ it is. YieldsList-at is (YieldsList-from_rest c.args.table.now.entries c.iter.ensures.rest))
    (λ xs same ext q. ext.1.0 q ∙ (ap (λ (es : List Entry). update_all edge_eq (found c.args.all.now.entries) es q) same
    ∙ update_all_distinct edge_laws edge_eq (λ x y. refl) (found c.args.all.now.entries) c.args.table.now.entries q c.iter.ensures.unique))
