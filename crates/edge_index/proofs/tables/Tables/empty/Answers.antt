use Rattle.std.proofs.Common.{◌<◌, sym, ap, subst, List, length, arith}
use Rattle.delf_model.specs.declared.rows.EdgeRow.{EdgeRow}
use Rattle.edge_index.specs.Links.{rows_of}
use Rattle.edge_index.specs.Ends.{at_source, at_target}
use Rattle.edge_index.proofs.Orders.{order_none}
use Rattle.edge_index.proofs.Changes.{refs_none}
use Rattle.edge_index.proofs.tables.Tables.empty.Goals as goal

pub returns-clause-agree : goal.returns-clause-agree
returns-clause-agree c = record {
  rise = c.in_ok-empty.ensures.rise;
  few = subst (λ (rs : List EdgeRow). length rs < 4294967296) (sym (ap rows_of c.in_ok-empty.ensures.none)) (omega arith);
  outs = c.in_ok-empty_order.ensures.count;
  out = order_none at_source _ _ c.in_ok-empty.ensures.none c.in_ok-empty_order.ensures.none;
  ins = c.in_ok-empty_order-2.ensures.count;
  into = order_none at_target _ _ c.in_ok-empty.ensures.none c.in_ok-empty_order-2.ensures.none;
  targets = c.in_ok-empty_refs.ensures.count;
  refs = refs_none _ _ _ c.in_ok-empty.ensures.none c.in_ok-empty_refs.ensures.none;
}
