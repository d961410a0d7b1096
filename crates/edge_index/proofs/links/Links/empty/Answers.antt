use Rattle.std.proofs.Common.{ap}
use Rattle.edge_index.specs.Keys.{edge_eq}
use Rattle.edge_index.specs.Links.{link_home, entries_of, all_entries, by_key}
use Rattle.edge_index.proofs.ByKey.{by_key_rise}
use Rattle.edge_index.proofs.Sharded.{none_in_all, none_in_shards}
use Rattle.edge_index.proofs.links.Links.empty.Goals as goal

pub returns-clause-none : goal.returns-clause-none
returns-clause-none c = ap by_key (none_in_all entries_of c.in_ok-tables.tables.items c.in_ok-tables.ensures.none)

pub returns-clause-rise : goal.returns-clause-rise
returns-clause-rise c = by_key_rise (all_entries c.in_ok-tables.tables.items)

pub invariant_of-result : goal.invariant_of-result
invariant_of-result c = (c.in_ok-tables.ensures.count, none_in_shards entries_of edge_eq link_home c.in_ok-tables.tables.items c.in_ok-tables.ensures.none)
