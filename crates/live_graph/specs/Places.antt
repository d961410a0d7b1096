-- Where an edge has its place in the order.
use Rattle.std.specs.Prelude.{ℕ, suc, List, [], ◌∷◌, if◌then◌else◌}
use Rattle.delf_model.specs.declared.rows.EdgeRow.{EdgeRow}
use Rattle.delf_model.specs.declared.rows.EdgeKey.{EdgeKey}
use Rattle.delf_model.specs.Graph.{key_before}

-- how many rows at the front stand before the first with a greater key
abbrev pub edge_place_in : EdgeKey → List EdgeRow → ℕ
edge_place_in key [] = 0
edge_place_in key (row ∷ rows) = if key_before key row.key then 0 else suc (edge_place_in key rows)
