-- What a cut or an erasure takes.
use Rattle.std.specs.Prelude.{◌≡◌, [], ◌∷◌, Some}
use Rattle.delf_model.specs.declared.entry.What.{What}
use Rattle.delf_model.specs.declared.rows.Item.{Item}
use Rattle.delf_model.specs.State.{State, position_of}
use Rattle.delf_model.specs.Step.{unhandled}
use Rattle.delf_model.specs.Payloads.{last_carrier}
use Rattle.payload_laws.specs.Holders.{position_taken, scrubbed_by}
use Rattle.store_laws.specs.Moves.{new_items}

-- the entry logs this item and no other, and leaves the record of its payload to be scrubbed
pub record TakesItem (s : State) (what : What) (it : Item) : Type 0 where
  pub items : new_items s what ≡ unhandled it ∷ []
  pub position : position_taken s what ≡ Some (position_of it)
  pub scrubbed : scrubbed_by s what ≡ last_carrier s (position_of it) ∷ []
