-- What an edit does to a graph, and when the graph can take it.
use Rattle.std.specs.Prelude.{◌≡◌, ℕ, ◌<◌, Bool, false, None, length, is_some, IsTrue}
use Rattle.delf_model.specs.declared.rows.ObjectRow.{ObjectRow}
use Rattle.delf_model.specs.declared.rows.EdgeRow.{EdgeRow}
use Rattle.delf_model.specs.declared.rows.EdgeKey.{EdgeKey}
use Rattle.delf_model.specs.Graph.{Graph, Change, Same, PutsObject, TakesObject, RewritesObject, PutsEdge, TakesEdge, object_at, edge_at, is_touched}
use Rattle.ledger.specs.declared.edit.Edit.{Edit}
use Rattle.ledger.specs.declared.edit.Edit.TheVariants as edit

-- the change that an edit stands for
abbrev pub change_of_edit : Edit → Change
change_of_edit edit.Keep = Same
change_of_edit (edit.PutObject row) = PutsObject row
change_of_edit (edit.TakeObject id) = TakesObject id
change_of_edit (edit.RewriteObject id at size) = RewritesObject id at size
change_of_edit (edit.PutEdge row) = PutsEdge row
change_of_edit (edit.TakeEdge key) = TakesEdge key

-- the key is free, both ends stand, and there is room for one edge more
pub record FitsEdge (g : Graph) (edges : EdgeKey → Bool) (row : EdgeRow) : Type 0 where
  pub free : edge_at g row.key ≡ None
  pub source : IsTrue (is_some (object_at g row.key.from))
  pub target : IsTrue (is_some (object_at g row.key.to))
  pub room : length g.edges < 4294967295
  pub ready : IsTrue (edges row.key)

pub record FitsObject (g : Graph) (objects : ℕ → Bool) (row : ObjectRow) : Type 0 where
  pub free : object_at g row.id ≡ None
  pub ready : IsTrue (objects row.id)

-- the graph can take this change, without memory
abbrev pub CanChange : Graph → (ℕ → Bool) → (EdgeKey → Bool) → Change → Type 0
CanChange g objects edges Same = Unit {0}
CanChange g objects edges (PutsObject row) = FitsObject g objects row
CanChange g objects edges (TakesObject id) = is_touched g id ≡ false
CanChange g objects edges (RewritesObject id at size) = IsTrue (is_some (object_at g id))
CanChange g objects edges (PutsEdge row) = FitsEdge g edges row
CanChange g objects edges (TakesEdge key) = Unit {0}
