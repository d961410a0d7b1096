-- Reading fields from the front of the bytes.
use Rattle.std.specs.Prelude.{◌≡◌, ℕ, Bool, true, ◌&&◌, List, [], ◌∷◌, length, take, drop, get_or, Option, Some, None, nat_lt, nat_le, ◌==◌, if◌then◌else◌}
use Rattle.std.specs.Int.{byte_len, from_be_bytes}
use Rattle.delf_model.specs.declared.entry.Entry.{Entry}
use Rattle.delf_model.specs.declared.entry.What.{What}
use Rattle.delf_model.specs.declared.rows.Item.{Item}
use Rattle.entry_codec.specs.declared.limits.TheConstants.{LAST_MOMENT, LAST_ID, TYPE_COUNT}
use Rattle.entry_codec.specs.Field.{Sort, Kind, TypeNumber, EdgeNumber, Word, Moment, Id, Due, width_of, Field}
use Rattle.entry_codec.specs.EntryHead.{entry_kind, what_fields, HasPayload, IsWhatHead, IsEntryHead}
use Rattle.entry_codec.specs.ItemHead.{item_kind, row_fields, item_size, IsRowHead, IsItemHead}

infixl 10 ◌>>=◌
abbrev pub ◌>>=◌ : {A B : Type 0} → Option A → (A → Option B) → Option B
(Some x) >>= f = f x
None >>= f = None

-- what a function returned, seen by view, is what reading gives
abbrev pub Gives : {X Y : Type 0} → (X → Y) → Option X → Option Y → Type 0
Gives view (Some x) read = read ≡ Some (view x)
Gives view None read = read ≡ None

-- whether a field may hold the number, where its bytes can spell it
abbrev pub is_number : Sort → ℕ → Bool
is_number Kind n = true
is_number TypeNumber n = nat_lt n TYPE_COUNT
is_number EdgeNumber n = true
is_number Word n = true
is_number Moment n = nat_le n LAST_MOMENT
is_number Id n = nat_lt 0 n && nat_le n LAST_ID
is_number Due n = true

-- a number, and the bytes after it
abbrev pub checked : Sort → ℕ → List ℕ → Option (ℕ × List ℕ)
checked s n rest = if is_number s n then Some (n, rest) else None

unfoldable pub number_at : Sort → List ℕ → Option (ℕ × List ℕ)
number_at s bytes =
    if nat_lt (length bytes) (byte_len (width_of s)) then None
    else checked s (from_be_bytes (width_of s) (take (byte_len (width_of s)) bytes)) (drop (byte_len (width_of s)) bytes)

-- fields of these sorts, and then so many bytes to the end
unfoldable pub fields_at : ℕ → List Sort → List ℕ → Option (List Field × List ℕ)
fields_at rest_len [] bytes = if length bytes == rest_len then Some ([], bytes) else None
fields_at rest_len (s ∷ sorts) bytes = do
  first ← number_at s bytes
  others ← fields_at rest_len sorts first.1
  Some (record { sort = s; number = first.0 } ∷ others.0, others.1)

-- the sorts of the fields behind the kind
abbrev pub entry_sorts : ℕ → List Sort
entry_sorts kind = get_or (
    []
    ∷ (Word ∷ Word ∷ TypeNumber ∷ Id ∷ [])
    ∷ (Word ∷ Word ∷ Id ∷ [])
    ∷ (Word ∷ Word ∷ EdgeNumber ∷ Id ∷ Id ∷ [])
    ∷ (Word ∷ Word ∷ EdgeNumber ∷ Id ∷ Id ∷ Word ∷ [])
    ∷ (Word ∷ Word ∷ Id ∷ Word ∷ [])
    ∷ (Word ∷ Word ∷ Word ∷ [])
    ∷ (Id ∷ [])
    ∷ (Word ∷ EdgeNumber ∷ Id ∷ Id ∷ [])
    ∷ (Word ∷ Id ∷ [])
    ∷ (Word ∷ Word ∷ [])
    ∷ (Word ∷ [])
    ∷ []) kind []

abbrev pub item_sorts : ℕ → List Sort
item_sorts kind = get_or (
    []
    ∷ (Word ∷ Id ∷ TypeNumber ∷ Word ∷ Due ∷ Word ∷ [])
    ∷ (Word ∷ EdgeNumber ∷ Id ∷ Id ∷ Word ∷ Word ∷ Word ∷ [])
    ∷ []) kind []

-- the fields alone
abbrev pub fields_of : Option (List Field × List ℕ) → Option (List Field)
fields_of (Some read) = Some read.0
fields_of None = None

-- what was read behind the kind of an entry
abbrev pub ReadsWhat : ℕ → List ℕ → ℕ → Option What → Type 0
ReadsWhat kind bytes size None = fields_at 0 (entry_sorts kind) bytes ≡ None
ReadsWhat kind bytes size (Some what) =
    (entry_kind what ≡ kind) × HasPayload what size × (fields_of (fields_at 0 (entry_sorts kind) bytes) ≡ Some (what_fields what))

-- the answer is what these bytes and a payload of this size spell behind the kind
abbrev pub IsWhatRead : ℕ → List ℕ → ℕ → Option What → Type 0
IsWhatRead kind bytes size None = (what : What) → IsWhatHead what kind bytes size → ⊥
IsWhatRead kind bytes size (Some what) = IsWhatHead what kind bytes size

-- the answer is the entry that the head and a payload of this size spell
abbrev pub IsEntryRead : List ℕ → ℕ → Option Entry → Type 0
IsEntryRead head size None = (entry : Entry) → IsEntryHead entry head size → ⊥
IsEntryRead head size (Some entry) = IsEntryHead entry head size

-- what was read behind the kind of an item
abbrev pub ReadsRow : ℕ → List ℕ → ℕ → Option (Item × List ℕ) → Type 0
ReadsRow kind bytes size None = fields_at 32 (item_sorts kind) bytes ≡ None
ReadsRow kind bytes size (Some found) =
    (item_kind found.0 ≡ kind) × (item_size found.0 ≡ size)
    × (fields_at 32 (item_sorts kind) bytes ≡ Some (row_fields found.0, found.1))

-- the answer is what these bytes and a payload of this size spell behind the kind
abbrev pub IsRowRead : ℕ → List ℕ → ℕ → Option (Item × List ℕ) → Type 0
IsRowRead kind bytes size None = (item : Item) (digest : List ℕ) → IsRowHead item digest kind bytes size → ⊥
IsRowRead kind bytes size (Some found) = IsRowHead found.0 found.1 kind bytes size

-- the answer is the item and the digest that the head and a payload of this size spell
abbrev pub IsItemRead : List ℕ → ℕ → Option (Item × List ℕ) → Type 0
IsItemRead head size None = (item : Item) (digest : List ℕ) → IsItemHead item digest head size → ⊥
IsItemRead head size (Some found) = IsItemHead found.0 found.1 head size
