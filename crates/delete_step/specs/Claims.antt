-- What a claim holds.
use Rattle.std.specs.Prelude.{◌≡◌, ℕ, ◌≤◌, List}
use Rattle.delf_model.specs.declared.rows.Item.{Item}
use Rattle.entry_codec.specs.declared.limits.TheConstants.{LARGEST_PAYLOAD}
use Rattle.entry_codec.specs.ItemHead.{item_size, IsTypeBounded}

-- an item that is to be logged, with its payload
pub record ClaimView : Type 0 where
  pub item : Item
  pub payload : List ℕ

-- the payload has the size of the row, and the item has a spelling
pub record IsWhole (it : Item) (size : ℕ) : Type 0 where
  pub payload : size ≡ item_size it
  pub largest : item_size it ≤ LARGEST_PAYLOAD
  pub types : IsTypeBounded it
