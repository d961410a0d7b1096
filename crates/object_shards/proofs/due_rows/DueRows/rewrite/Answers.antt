use Rattle.object_shards.proofs.Leasts.{same_blocks}
use Rattle.object_shards.proofs.due_rows.DueRows.rewrite.Goals as goal

pub invariant_of-self-clause-least_dues : goal.invariant_of-self-clause-least_dues
invariant_of-self-clause-least_dues c =
    same_blocks c.args.self.now.shards.items c.rewrite.new.shards.items c.args.self.now.leasts.items c.rewrite.ensures.count c.rewrite.ensures.dues
    c.args.self.now.least_dues
