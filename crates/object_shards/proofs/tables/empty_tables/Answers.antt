use Rattle.std.proofs.Common.{◌≡◌, [], List, sym, subst, arith}
use Rattle.object_shards.specs.Table.{TableSeen}
use Rattle.object_shards.specs.Tables.{rows_at}
use Rattle.object_shards.proofs.Joined.{none_more}
use Rattle.object_shards.proofs.tables.empty_tables.Goals as goal

pub tables-preserved : goal.tables-preserved
tables-preserved c = record {
  within = let len = c.len.ensures in let long = c.in_ok-push.ensures.len in let before = c.tables.tables.ok.0 in let after = c.push.new.self.ok.0 in
      let test = c.tables-test.true in omega arith;
  none = λ table. subst (λ (ts : List TableSeen). rows_at ts table ≡ []) (sym c.in_ok-push.ensures.items)
      (none_more c.tables.tables.items c.empty.result c.empty.ensures c.tables.invariant.none table);
}
