-- What the sixteen tables of a graph stand for.
use Rattle.std.specs.Prelude.{◌%◌, ℕ, List}
use Rattle.delf_model.specs.declared.rows.ObjectRow.{ObjectRow}
use Rattle.object_shards.specs.declared.tables.ObjectTables.{ObjectTables}
use Rattle.object_shards.specs.Tables.{joined, room_at}

abbrev pub table_rows_of : ObjectTables → List ObjectRow
table_rows_of s = joined s.tables.items

-- for how many rows more the table of this id has room
abbrev pub room_for : ObjectTables → ℕ → ℕ
room_for s id = room_at s.tables.items (id % 16)
