-- Rows by rising id: the place of an id, the least due, and ids between two bounds.
use Rattle.std.specs.Prelude.{ℕ, suc, Bool, true, ◌&&◌, List, [], ◌∷◌, nat_lt, nat_le, if◌then◌else◌}
use Rattle.delf_model.specs.declared.rows.ObjectRow.{ObjectRow}

-- how many rows at the front have a lesser id
abbrev pub place_in : ℕ → List ObjectRow → ℕ
place_in id [] = 0
place_in id (row ∷ rows) = if nat_lt row.id id then suc (place_in id rows) else 0

-- the lesser of a due and a least due, where a due of 0 counts for none
abbrev pub lesser_due : ℕ → ℕ → ℕ
lesser_due due least = if nat_lt 0 due && nat_lt due least then due else least

-- the least due above 0, or the greatest number of 64 bits where none is
abbrev pub least_of : List ObjectRow → ℕ
least_of [] = 18446744073709551615
least_of (row ∷ rows) = lesser_due row.due (least_of rows)

-- each id is at least the first number and below the second
abbrev pub ids_within : ℕ → ℕ → List ObjectRow → Bool
ids_within low high [] = true
ids_within low high (row ∷ rows) = nat_le low row.id && nat_lt row.id high && ids_within low high rows

-- whether the object expires
abbrev pub expires : ObjectRow → Bool
expires row = nat_lt 0 row.due
