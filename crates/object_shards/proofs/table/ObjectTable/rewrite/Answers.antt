use Rattle.object_shards.proofs.ById.{by_id_rewritten}
use Rattle.object_shards.proofs.table.ObjectTable.rewrite.Goals as goal

pub returns : goal.returns
returns c =
    rw (← c.self.view_is) (by_id_rewritten c.self.inside.entries.entries c.renew.new.entries.entries c.args.id c.args.at c.args.size c.renew.ensures)
