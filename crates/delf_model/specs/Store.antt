-- What a store of graph rows is asked: the least due object, the references that count, both ends of each edge.
use Rattle.std.specs.Prelude.{ℕ, Bool, true, ◌&&◌, nat_eq, nat_lt, nat_le, List, Option, Some, None, count_by, find, is_some, IsTrue, option_map}
use Rattle.delf_model.specs.declared.rows.ObjectRow.{ObjectRow}
use Rattle.delf_model.specs.declared.rows.EdgeRow.{EdgeRow}
use Rattle.delf_model.specs.declared.rows.EdgeKey.{EdgeKey}
use Rattle.delf_model.specs.Graph.{Graph, object_at, edge_stands}

abbrev pub is_counted : (ℕ → Bool) → ℕ → EdgeRow → Bool
is_counted counts id row = counts row.key.edge && nat_eq row.key.to id

-- how many edges of the types that count point at the object
abbrev pub counted_refs : (ℕ → Bool) → Graph → ℕ → ℕ
counted_refs counts g id = count_by (is_counted counts id) g.edges

abbrev pub is_above : Option ℕ → ℕ → Bool
is_above None id = true
is_above (Some low) id = nat_lt low id

abbrev pub is_due_after : ℕ → Option ℕ → ObjectRow → Bool
is_due_after moment low row = is_above low row.id && nat_lt 0 row.due && nat_le row.due moment

abbrev pub id_of_row : Option ObjectRow → Option ℕ
id_of_row found = option_map (λ row. row.id) found

-- the least id above the given one whose due is above 0 and at most the moment
abbrev pub least_due : ℕ → Option ℕ → List ObjectRow → Option ℕ
least_due moment low rows = id_of_row (find (is_due_after moment low) rows)

-- both ends of each edge stand
pub record EndsStand (g : Graph) : Type 0 where
  pub source : (key : EdgeKey) → IsTrue (edge_stands g key) → IsTrue (is_some (object_at g key.from))
  pub target : (key : EdgeKey) → IsTrue (edge_stands g key) → IsTrue (is_some (object_at g key.to))
