use Rattle.std.proofs.Common.{◌∙◌, ap, List}
use Rattle.std.specs.Prelude.{slice_get}
use Rattle.delf_model.specs.declared.rows.EdgeRow.{EdgeRow}
use Rattle.edge_index.specs.Ends.{places_at}
use Rattle.edge_index.proofs.Keys.{target_is}
use Rattle.edge_index.proofs.Near.{near_rows}
use Rattle.edge_index.proofs.edge_index.EdgeIndex.in_at.Goals as goal

pub returns : goal.returns
returns c =
    rw (← c.self.view_is) (c.row_near.ensures ∙ ap (λ (rows : List EdgeRow). slice_get rows c.args.i)
    (near_rows c.self.inside.tables.links.entries _ _ target_is c.args.id (places_at c.self.inside.tables.inward.items) c.self.invariant.rise c.self.invariant.into))
