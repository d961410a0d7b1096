use Rattle.std.proofs.Common.{◌≡◌, List, rules, tests, ◌∙◌, subst}
use Rattle.std.proofs.lemmas.Iterator.Consumers.{YieldsList-from_rest, YieldsList-at}
use Rattle.std.proofs.lemmas.Iterator.{items_from_collect, YieldsList-from_map}
use Rattle.std.specs.Prelude.{IfOk}
use Rattle.delf_model.specs.declared.rows.ObjectRow.{ObjectRow}
use Rattle.object_shards.specs.Table.{row_of_entry}
use Rattle.object_shards.proofs.table.ObjectTable.rows.Goals as goal

pub returns : goal.returns
returns c =
    rw (← c.self.view_is)
    (subst (λ (rs : List ObjectRow). IfOk c.collect.result (λ rows. rows.items ≡ rs)) c.in_ok-sorted.ensures
    (items_from_collect c.collect.result c.collect.ensures.ran
    (YieldsList-from_map _ row_of_entry
    (YieldsList-at c.map.ensures.source (YieldsList-from_rest c.in_ok-sorted.sorted.entries c.iter.ensures.rest))
    c.map.ensures.closure (λ x r q k. search (rules, tests)))))
