use Rattle.std.proofs.Common.{◌≡◌, [], List, sym, subst, arith}
use Rattle.edge_index.specs.Refs.{counts_in, counts_at}
use Rattle.edge_index.proofs.Sharded.{none_more}
use Rattle.edge_index.proofs.refs.empty_refs.Goals as goal

pub shards-preserved : goal.shards-preserved
shards-preserved c = record {
  within = let len = c.len.ensures in let long = c.in_ok-push.ensures.len in let before = c.shards.refs.ok.0 in let after = c.push.new.self.ok.0 in
      let test = c.shards-test.true in omega arith;
  none = λ shard. subst (λ (ms : List _). counts_at ms shard ≡ []) (sym c.in_ok-push.ensures.items)
      (none_more counts_in c.shards.refs.items c.with_hasher.result c.with_hasher.ensures.empty c.shards.invariant.none shard);
}
