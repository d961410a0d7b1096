-- What an index of edges is seen as.
use Rattle.std.specs.Prelude.{ℕ, Bool, List, slice_get}
use Rattle.std.specs.List.{list_any}
use Rattle.delf_model.specs.declared.rows.EdgeKey.{EdgeKey}
use Rattle.delf_model.specs.declared.rows.EdgeRow.{EdgeRow}
use Rattle.delf_model.specs.declared.schema.EdgeShape.{EdgeShape}
use Rattle.delf_model.specs.RuleSet.{is_refcount_shape}
use Rattle.delf_model.specs.Graph.{same_key}

-- the edges by rising key, the edge types by number, and the keys for which room was made
pub record IndexedEdges : Type 0 where
  pub edges : List EdgeRow
  pub shapes : List EdgeShape
  pub room : List EdgeKey

-- whether the edge type with this number is refcount
abbrev pub counts_of : IndexedEdges → ℕ → Bool
counts_of index = λ edge. is_refcount_shape (slice_get index.shapes edge)

-- whether an edge with this key needs no memory
abbrev pub is_ready : IndexedEdges → EdgeKey → Bool
is_ready index key = list_any (same_key key) index.room
