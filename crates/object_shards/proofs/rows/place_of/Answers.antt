use Rattle.std.proofs.Common.{◌+◌, ◌-◌, ◌/◌, ap, arith}
use Rattle.delf_model.specs.declared.rows.ObjectRow.{ObjectRow}
use Rattle.object_shards.proofs.Ids.{place_above, place_below, place_within}
use Rattle.object_shards.proofs.rows.place_of.Goals as goal

pub halves-init : goal.halves-init
halves-init c = record { low = omega arith; high = place_within c.args.rows.now c.args.id; within = omega arith }

pub halves-preserved-then-get-id : goal.halves-preserved-then-get-id
halves-preserved-then-get-id c = record {
  low = omega (
    arith,
    place_above c.args.rows.now c.args.id (c.halves.low + (c.halves.high - c.halves.low) / 2)
        c.index-rows-middle.result c.requires (omega arith) c.index-rows-middle.is (omega (arith, ap (λ (r : ObjectRow). r.id) c.index-rows-middle.is)),
  );
  high = c.halves.invariant.high;
  within = c.halves.invariant.within;
}

pub halves-preserved : goal.halves-preserved
halves-preserved c = record {
  low = c.halves.invariant.low;
  high = place_below c.args.rows.now c.args.id (c.halves.low + (c.halves.high - c.halves.low) / 2)
      c.index-rows-middle.result (omega arith) c.index-rows-middle.is (omega (arith, ap (λ (r : ObjectRow). r.id) c.index-rows-middle.is));
  within = omega arith;
}
