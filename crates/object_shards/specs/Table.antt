-- The object rows that a table by hashed id makes.
use Rattle.std.specs.Prelude.{ℕ, List, [], ◌∷◌, Option, Some, None, nat_eq}
use Rattle.std.specs.Map.{lookup}
use Rattle.delf_model.specs.declared.rows.ObjectRow.{ObjectRow}
use Rattle.delf_model.specs.Graph.{put_object}
use Rattle.object_shards.specs.declared.table.Kept.{Kept}

-- an id with what is kept of its object
abbrev pub Entry : Type 0
Entry = ℕ × Kept

-- what a table is seen as: its rows by rising id, and for how many more there is room
pub record TableSeen : Type 0 where
  pub rows : List ObjectRow
  pub room : ℕ

abbrev pub row_of : ℕ → Kept → ObjectRow
row_of id kept = record { id = id; kind = kept.kind; birth = kept.birth; due = kept.due; at = kept.at; size = kept.size }

abbrev pub row_of_entry : Entry → ObjectRow
row_of_entry entry = row_of entry.0 entry.1

-- what a row has beside its id
abbrev pub kept_of : ObjectRow → Kept
kept_of row = record { kind = row.kind; birth = row.birth; due = row.due; at = row.at; size = row.size }

-- what is kept at an id
abbrev pub found : List Entry → ℕ → Option Kept
found entries id = lookup (nat_eq id) entries

abbrev pub row_found : ℕ → Option Kept → Option ObjectRow
row_found id None = None
row_found id (Some kept) = Some (row_of id kept)

-- the same with a new payload
abbrev pub renewed : ℕ → ℕ → Option Kept → Option Kept
renewed at size None = None
renewed at size (Some kept) = Some (record kept { at = at; size = size })

-- rows by rising id, and of two at one id the first
abbrev pub by_id : List Entry → List ObjectRow
by_id [] = []
by_id (e ∷ es) = put_object (row_of e.0 e.1) (by_id es)
