use Rattle.std.proofs.Common.{◌/◌, ap, arith}
use Rattle.object_shards.proofs.Leasts.{early_block}
use Rattle.object_shards.proofs.Moments.{due_at, passed_more}
use Rattle.object_shards.specs.declared.shard.Shard.{Shard}
use Rattle.object_shards.specs.Shards.{dues_of}
use Rattle.object_shards.proofs.blocks.first_in_block.Goals as goal

pub loop-place-preserved : goal.loop-place-preserved
loop-place-preserved c = record {
  above = omega arith;
  passed = passed_more (dues_of c.args.shards.now) c.args.moment c.args.from c.loop-place.place c.loop-place.invariant.passed
      (let is = due_at c.args.shards.now c.loop-place.place c.index-shards-place.result (omega arith) c.index-shards-place.is in
      let same = ap (λ (s : Shard). s.least) c.index-shards-place.is in
      let later = c.if-shards-place.false in omega arith);
}

pub returns-then-leasts-from-clause-passed : goal.returns-then-leasts-from-clause-passed
returns-then-leasts-from-clause-passed c = λ k above below.
    early_block (c.args.from / 64) c.args.shards.now c.args.moment k
    (let is = c.requires.leasts (c.args.from / 64) (let count = c.requires.count in omega arith) in let later = c.if-leasts-from.true in omega arith)
    (omega arith) (let end = c.requires.end in omega arith) (let end = c.requires.end in omega arith)
