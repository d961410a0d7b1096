-- The head of an erased item: its kind, the fields of that kind, and the digest of its payload.
use Rattle.std.specs.Prelude.{◌≡◌, ℕ, ◌<◌, ◌≤◌, List, [], ◌∷◌, ◌++◌, length}
use Rattle.delf_model.specs.declared.rows.Item.{Item}
use Rattle.delf_model.specs.declared.rows.Item.TheVariants.{Object, Edge}
use Rattle.entry_codec.specs.declared.limits.TheConstants.{TYPE_COUNT, LARGEST_PAYLOAD}
use Rattle.entry_codec.specs.Field.{Field, kind, type_number, edge_number, word, object_id, due, spelled, AreFields}

abbrev pub item_kind : Item → ℕ
item_kind (Object job row) = 1
item_kind (Edge job row from_birth to_birth) = 2

-- what stands between the kind and the digest
abbrev pub row_fields : Item → List Field
row_fields (Object job row) =
    word job ∷ object_id row.id ∷ type_number row.kind ∷ word row.birth ∷ due row.due ∷ word row.at ∷ []
row_fields (Edge job row from_birth to_birth) =
    word job ∷ edge_number row.key.edge ∷ object_id row.key.from ∷ object_id row.key.to ∷ word row.birth ∷ word from_birth ∷ word to_birth ∷ []

abbrev pub item_fields : Item → List Field
item_fields i = kind (item_kind i) ∷ row_fields i

-- the one spelling of the item with this digest
abbrev pub item_head : Item → List ℕ → List ℕ
item_head i digest = spelled (item_fields i) ++ digest

-- the size of the payload
abbrev pub item_size : Item → ℕ
item_size (Object job row) = row.size
item_size (Edge job row from_birth to_birth) = row.size

-- the number of the type of an object within its bound, which the type itself does not keep
abbrev pub IsTypeBounded : Item → Type 0
IsTypeBounded (Object job row) = row.kind < TYPE_COUNT
IsTypeBounded (Edge job row from_birth to_birth) = Unit {0}

-- an item that has a spelling: each field holds a number that it may hold, and the payload is not too large
pub record IsItem (i : Item) : Type 0 where
  pub fields : AreFields (item_fields i)
  pub size : item_size i ≤ LARGEST_PAYLOAD

-- behind the kind, these bytes and a payload of this size are those of the item and the digest
pub record IsRowHead (i : Item) (digest : List ℕ) (kind : ℕ) (bytes : List ℕ) (size : ℕ) : Type 0 where
  pub same_kind : item_kind i ≡ kind
  pub fields : AreFields (row_fields i)
  pub bounded : item_size i ≤ LARGEST_PAYLOAD
  pub payload : size ≡ item_size i
  pub digest_length : length digest ≡ 32
  pub spelling : bytes ≡ spelled (row_fields i) ++ digest

-- the item and the digest are those of this head with a payload of this size
pub record IsItemHead (i : Item) (digest : List ℕ) (head : List ℕ) (size : ℕ) : Type 0 where
  pub item : IsItem i
  pub payload : size ≡ item_size i
  pub digest_length : length digest ≡ 32
  pub spelling : head ≡ item_head i digest
