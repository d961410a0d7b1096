-- What the shards of the rows that expire stand for: these rows by rising id, and which ids were made ready.
use Rattle.std.specs.Prelude.{ℕ, Bool, List}
use Rattle.delf_model.specs.declared.rows.ObjectRow.{ObjectRow}
use Rattle.object_shards.specs.declared.due_rows.DueRows.{DueRows}
use Rattle.object_shards.specs.Shards.{rows_of, ready_in}

abbrev pub due_rows_of : DueRows → List ObjectRow
due_rows_of s = rows_of s.shards.items

-- whether room was made for a row with this id
abbrev pub is_ready_for : DueRows → ℕ → Bool
is_ready_for s id = ready_in id s.shards.items
