use Rattle.std.proofs.Common.{◌∙◌, ◌-◌, ap, arith}
use Rattle.std.specs.Option.{option_or}
use Rattle.edge_index.specs.Keys.{edge_eq}
use Rattle.edge_index.specs.Links.{found, entries_of}
use Rattle.edge_index.proofs.Sharded.{more_found}
use Rattle.edge_index.proofs.links.one_table.Goals as goal

pub shards-preserved : goal.shards-preserved
shards-preserved c = record {
  all = λ key.
      c.in_ok-add_table.ensures key
      ∙ (ap (option_or (found c.index-tables-shard.result.entries key)) (c.shards.invariant.all key)
      ∙ more_found entries_of (edge_eq key) c.args.tables.now c.shards.shard (c.shards.shard - 1) c.index-tables-shard.result
      (let test = c.shards-test.true in omega arith) (let test = c.shards-test.true in let within = c.shards.invariant.within in omega arith) c.index-tables-shard.is);
  within = let test = c.shards-test.true in let within = c.shards.invariant.within in omega arith;
}
