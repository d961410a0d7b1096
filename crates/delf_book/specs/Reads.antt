-- What a read of a payload answers, and what a fold knows of records.
use Rattle.std.specs.Prelude.{◌≡◌, ℕ, ◌↔◌, Bool, true, List, [], Option, Some, None}
use Rattle.delf_disk.specs.declared.area.Area.{Area}
use Rattle.delf_disk.specs.declared.area.Area.TheVariants as area
use Rattle.delf_model.specs.declared.rows.ObjectRow.{ObjectRow}
use Rattle.delf_model.specs.declared.rows.EdgeRow.{EdgeRow}
use Rattle.delf_model.specs.declared.rows.Item.{Item}
use Rattle.delf_model.specs.declared.rows.Item.TheVariants as item
use Rattle.delf_model.specs.declared.entry.What.{What}
use Rattle.delf_model.specs.declared.entry.What.TheVariants.{Create, Update, Link, Unlink, Delete, Restore, Expire, Cut, Erase, Put, Purge}
use Rattle.delf_model.specs.Graph.{object_at, edge_at}
use Rattle.delf_model.specs.State.{State}
use Rattle.delf_model.specs.Owners.{key_of}
use Rattle.delf_model.specs.Payloads.{Carrier, Journal, Vault}
use Rattle.job_table.specs.Table.{item_at}
use Rattle.payload_laws.specs.Holders.{IsLive, carrier_of_object, carrier_of_edge}

-- the record of an area, as a carrier of payloads
abbrev pub carrier_in : Area → ℕ → Carrier
carrier_in area.Journal i = Journal i
carrier_in area.Vault i = Vault i

-- it tells whether the record is the last carrier of a needed position
abbrev pub TellsLive : State → Area → ℕ → Bool → Type 0
TellsLive s it i told = (told ≡ true) ↔ IsLive s (carrier_in it i)

-- the position of the payload that a row has
abbrev pub IsObjectAt : Option ObjectRow → ℕ → ℕ → Type 0
IsObjectAt found at size = (row : ObjectRow) × (found ≡ Some row) × (row.at ≡ at) × (row.size ≡ size)

abbrev pub IsEdgeAt : Option EdgeRow → ℕ → ℕ → Type 0
IsEdgeAt found at size = (row : EdgeRow) × (found ≡ Some row) × (row.birth ≡ at) × (row.size ≡ size)

-- the carrier of the row that an entry brings or puts back, as the row stands now
abbrev pub carriers_of_row : State → Option Item → List Carrier
carriers_of_row s None = []
carriers_of_row s (Some (item.Object job row)) = carrier_of_object s (object_at s.graph row.id)
carriers_of_row s (Some (item.Edge job row from_birth to_birth)) = carrier_of_edge s (edge_at s.graph row.key)

abbrev pub carriers_of_what : State → What → List Carrier
carriers_of_what s (Create tag kind id size) = carrier_of_object s (object_at s.graph id)
carriers_of_what s (Update tag id size) = carrier_of_object s (object_at s.graph id)
carriers_of_what s (Link tag edge from to size) = carrier_of_edge s (edge_at s.graph (key_of edge from to))
carriers_of_what s (Unlink tag edge from to name) = []
carriers_of_what s (Delete tag id name) = []
carriers_of_what s (Restore tag job) = []
carriers_of_what s (Expire id) = []
carriers_of_what s (Cut job edge from to) = []
carriers_of_what s (Erase job id) = []
carriers_of_what s (Put job i) = carriers_of_row s (item_at s i)
carriers_of_what s (Purge job) = []
