use Rattle.std.proofs.Common.{map, ap, sym, ◌∙◌}
use Rattle.std.specs.Prelude.{filter}
use Rattle.delf_model.specs.Graph.{rewritten}
use Rattle.object_shards.specs.Rows.{expires}
use Rattle.object_shards.specs.ObjectShards.{objects_of}
use Rattle.object_shards.proofs.Expiring.{rewritten_expiring}
use Rattle.object_shards.proofs.object_shards.ObjectShards.rewrite_object.Goals as goal

pub invariant_of-self : goal.invariant_of-self
invariant_of-self c = record {
  agree = c.rewrite-2.ensures ∙ (ap (map (rewritten c.args.id c.args.at c.args.size)) c.args.self.now.agree
      ∙ sym (ap (filter expires) c.rewrite.ensures ∙ rewritten_expiring c.args.id c.args.at c.args.size (objects_of c.args.self.now)));
}
