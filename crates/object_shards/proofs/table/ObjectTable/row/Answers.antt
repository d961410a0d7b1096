use Rattle.std.proofs.Common.{◌∙◌, sym, ap}
use Rattle.object_shards.specs.Table.{row_found}
use Rattle.object_shards.proofs.ById.{by_id_found}
use Rattle.object_shards.proofs.table.ObjectTable.row.Goals as goal

pub returns-in-Some : goal.returns-in-Some
returns-in-Some c =
    rw (← c.self.view_is, c.row_with.ensures)
    (ap (row_found c.args.id) (c.in-Some.ensures.value) ∙ sym (by_id_found c.self.inside.entries.entries c.args.id))

pub returns-in-None : goal.returns-in-None
returns-in-None c =
    rw (← c.self.view_is)
    (ap (row_found c.args.id) (c.in-None.ensures.value) ∙ sym (by_id_found c.self.inside.entries.entries c.args.id))
