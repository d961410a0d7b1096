use Rattle.std.proofs.Common.{Some, ◌∙◌, sym, ap}
use Rattle.object_shards.specs.Table.{row_found}
use Rattle.object_shards.proofs.ById.{by_id_found, by_id_take}
use Rattle.object_shards.proofs.table.ObjectTable.take.Goals as goal
use Rattle.object_shards.proofs.table.ObjectTable.take.Goals.{in-Some, in-None}

pub returns-clause-row : goal.returns-clause-row
returns-clause-row c =
    let got = c.swap_remove.ensures.value in
    rw (← c.self.view_is)
    (elim c.match-swap_remove.branch [
      | in-Some w ↦ w.result-is ∙ (ap (λ row. Some row) w.row_with.ensures ∙ (ap (row_found c.args.id) (sym w.in-Some.is ∙ got) ∙ sym (by_id_found c.self.inside.entries.entries c.args.id)))
      | in-None w ↦ w.result-is ∙ (ap (row_found c.args.id) (sym w.in-None.is ∙ got) ∙ sym (by_id_found c.self.inside.entries.entries c.args.id))
    ])

pub returns-clause-rows : goal.returns-clause-rows
returns-clause-rows c = rw (← c.self.view_is) (by_id_take c.self.inside.entries.entries c.swap_remove.new.self.entries c.args.id c.swap_remove.ensures.updates.0)
