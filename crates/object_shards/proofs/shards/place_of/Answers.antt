use Rattle.std.proofs.Common.{◌+◌, ◌-◌, ◌/◌, ap, arith}
use Rattle.object_shards.specs.declared.shard.Shard.{Shard}
use Rattle.object_shards.proofs.Parts.{place_at_least, place_under, place_in_shards, got_at}
use Rattle.object_shards.proofs.shards.place_of.Goals as goal

pub halves-init : goal.halves-init
halves-init c = record { low = omega arith; high = place_in_shards c.args.shards.now c.args.id (omega arith) (omega arith); within = omega arith }

pub halves-preserved-then-shards-middle : goal.halves-preserved-then-shards-middle
halves-preserved-then-shards-middle c = record {
  low = place_at_least c.args.shards.now c.args.id (c.halves.low + (c.halves.high - c.halves.low) / 2) c.index-shards-middle.result c.requires.stand
      (got_at c.args.shards.now (c.halves.low + (c.halves.high - c.halves.low) / 2) c.index-shards-middle.result _ (omega arith) c.index-shards-middle.is) (omega (arith, ap (λ (s : Shard). s.low) c.index-shards-middle.is));
  high = c.halves.invariant.high;
  within = c.halves.invariant.within;
}

pub halves-preserved : goal.halves-preserved
halves-preserved c = record {
  low = c.halves.invariant.low;
  high = place_under c.args.shards.now c.args.id (c.halves.low + (c.halves.high - c.halves.low) / 2) c.index-shards-middle.result (omega arith)
      (got_at c.args.shards.now (c.halves.low + (c.halves.high - c.halves.low) / 2) c.index-shards-middle.result _ (omega arith) c.index-shards-middle.is) (omega (arith, ap (λ (s : Shard). s.low) c.index-shards-middle.is));
  within = omega arith;
}
