use Rattle.std.proofs.Common.{◌≡◌, [], List, sym, subst, arith}
use Rattle.edge_index.specs.Links.{entries_of, entries_at}
use Rattle.edge_index.proofs.Sharded.{none_more}
use Rattle.edge_index.proofs.links.empty_tables.Goals as goal

pub shards-preserved : goal.shards-preserved
shards-preserved c = record {
  within = let len = c.len.ensures in let long = c.in_ok-push.ensures.len in let before = c.shards.tables.ok.0 in let after = c.push.new.self.ok.0 in
      let test = c.shards-test.true in omega arith;
  none = λ shard. subst (λ (ms : List _). entries_at ms shard ≡ []) (sym c.in_ok-push.ensures.items)
      (none_more entries_of c.shards.tables.items c.with_hasher.result c.with_hasher.ensures.empty c.shards.invariant.none shard);
}
