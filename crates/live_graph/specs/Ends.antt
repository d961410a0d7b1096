-- Each edge has both its ends, as a test.
use Rattle.std.specs.Prelude.{ℕ, Bool, ◌&&◌, List, find, is_some}
use Rattle.std.specs.List.{list_all}
use Rattle.delf_model.specs.declared.rows.ObjectRow.{ObjectRow}
use Rattle.delf_model.specs.declared.rows.EdgeRow.{EdgeRow}
use Rattle.delf_model.specs.Graph.{has_id}

abbrev pub has_row : List ObjectRow → ℕ → Bool
has_row objects id = is_some (find (has_id id) objects)

abbrev pub has_ends : List ObjectRow → EdgeRow → Bool
has_ends objects row = has_row objects row.key.from && has_row objects row.key.to

-- both ends of each of these edges are among these objects
abbrev pub all_have_ends : List ObjectRow → List EdgeRow → Bool
all_have_ends objects edges = list_all (has_ends objects) edges
