-- What the objects of a graph stand for: the rows by rising id, and which ids were made ready.
use Rattle.std.specs.Prelude.{ℕ, Bool, ◌&&◌, List, nat_lt}
use Rattle.delf_model.specs.declared.rows.ObjectRow.{ObjectRow}
use Rattle.object_shards.specs.declared.object_shards.ObjectShards.{ObjectShards}
use Rattle.object_shards.specs.ObjectTables.{table_rows_of, room_for}
use Rattle.object_shards.specs.DueRows.{is_ready_for}

abbrev pub objects_of : ObjectShards → List ObjectRow
objects_of s = table_rows_of s.tables

-- whether room was made for an object with this id
abbrev pub is_ready : ObjectShards → ℕ → Bool
is_ready s id = nat_lt 0 (room_for s.tables id) && is_ready_for s.dues id
