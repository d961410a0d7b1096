-- What tables stand for, of which each holds the rows of some ids.
use Rattle.std.specs.Prelude.{◌≡◌, ◌≢◌, ◌%◌, ℕ, zero, suc, List, [], ◌∷◌, None, find}
use Rattle.delf_model.specs.declared.rows.ObjectRow.{ObjectRow}
use Rattle.delf_model.specs.Graph.{put_object, has_id}
use Rattle.object_shards.specs.Table.{TableSeen}

-- the rows of a table by its number, none where there is no such table
abbrev pub rows_at : List TableSeen → ℕ → List ObjectRow
rows_at [] table = []
rows_at (t ∷ ts) zero = t.rows
rows_at (t ∷ ts) (suc table) = rows_at ts table

-- for how many rows more a table has room
abbrev pub room_at : List TableSeen → ℕ → ℕ
room_at [] table = 0
room_at (t ∷ ts) zero = t.room
room_at (t ∷ ts) (suc table) = room_at ts table

-- rows put among others by rising id
abbrev pub all_put : List ObjectRow → List ObjectRow → List ObjectRow
all_put [] rows = rows
all_put (x ∷ xs) rows = put_object x (all_put xs rows)

-- the rows of all tables by rising id
abbrev pub joined : List TableSeen → List ObjectRow
joined [] = []
joined (t ∷ ts) = all_put t.rows (joined ts)

-- each row stands in the table of its id modulo 16
abbrev pub InShards : List TableSeen → Type 0
InShards ts = (table id : ℕ) → table ≢ id % 16 → find (has_id id) (rows_at ts table) ≡ None
