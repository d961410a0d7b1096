use Rattle.std.proofs.Common.{ap, sym, ◌∙◌}
use Rattle.std.specs.Prelude.{filter}
use Rattle.delf_model.specs.Graph.{is_other_object}
use Rattle.object_shards.specs.Rows.{expires}
use Rattle.object_shards.specs.ObjectShards.{objects_of}
use Rattle.object_shards.proofs.Expiring.{take_expiring}
use Rattle.object_shards.proofs.object_shards.ObjectShards.take_object.Goals as goal

pub invariant_of-self : goal.invariant_of-self
invariant_of-self c = record {
  agree = c.take.ensures.rows ∙ (ap (filter (is_other_object c.args.id)) c.args.self.now.agree
      ∙ sym (ap (filter expires) c.take-2.ensures.rows ∙ take_expiring c.args.id (objects_of c.args.self.now)));
}
