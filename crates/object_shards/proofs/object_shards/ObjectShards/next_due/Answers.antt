use Rattle.std.proofs.Common.{List, ap, ◌∙◌}
use Rattle.delf_model.specs.declared.rows.ObjectRow.{ObjectRow}
use Rattle.delf_model.specs.Store.{least_due}
use Rattle.object_shards.specs.ObjectShards.{objects_of}
use Rattle.object_shards.proofs.Expiring.{due_expiring}
use Rattle.object_shards.proofs.object_shards.ObjectShards.next_due.Goals as goal

pub returns : goal.returns
returns c =
    c.next_due.ensures
    ∙ (ap (λ (rows : List ObjectRow). least_due c.args.moment c.args.after rows) c.args.self.now.agree
    ∙ due_expiring c.args.moment c.args.after (objects_of c.args.self.now))
