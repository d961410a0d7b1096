-- The judgement of a put: whether an item is put back, or the cause for which it is listed.
use Rattle.std.specs.Prelude.{ℕ, if◌then◌else◌, Option, Some, option_map}
use Rattle.std.specs.Option.{option_or}
use Rattle.delf_model.specs.declared.rows.ObjectRow.{ObjectRow}
use Rattle.delf_model.specs.declared.rows.EdgeRow.{EdgeRow}
use Rattle.delf_model.specs.declared.rows.Item.{Item}
use Rattle.delf_model.specs.declared.call.Cause.{Cause}
use Rattle.delf_model.specs.declared.rows.Item.TheVariants as item
use Rattle.delf_model.specs.declared.call.Cause.TheVariants as cause
use Rattle.delf_model.specs.Graph.{object_at, edge_at, stands}
use Rattle.delf_model.specs.State.{State, owner}

abbrev pub taken : Option ObjectRow → Option Cause
taken found = option_map (λ row. cause.Taken row.birth) found

abbrev pub end_condemned : ℕ → Option ℕ → Option Cause
end_condemned id by = option_map (cause.EndCondemned id) by

-- an end that has to stand with its logged birth and without an owner
abbrev pub end_cause : State → ℕ → ℕ → Option Cause
end_cause s id birth = if stands s.graph id birth then end_condemned id (owner s id) else Some (cause.EndMissing id)

abbrev pub key_taken : Option EdgeRow → Option Cause
key_taken found = option_map (λ row. cause.KeyTaken row.birth) found

-- none where the row is put back: an object where its id is free; an edge where its source, its target and its key,
-- tried in this order, have no cause against it
abbrev pub judged : State → Item → Option Cause
judged s (item.Object job row) = taken (object_at s.graph row.id)
judged s (item.Edge job row from_birth to_birth) =
    option_or (end_cause s row.key.from from_birth)
    (option_or (end_cause s row.key.to to_birth) (key_taken (edge_at s.graph row.key)))
