-- The fields of a head. Each is a number of one, four or eight bytes, the highest byte first.
use Rattle.std.specs.Prelude.{ℕ, ◌<◌, ◌≤◌, ◌^◌, List, [], ◌∷◌, ◌++◌}
use Rattle.std.specs.Int.{Width, w8, w32, w64, to_be_bytes}
use Rattle.entry_codec.specs.declared.limits.TheConstants.{LAST_MOMENT, LAST_ID, TYPE_COUNT}

-- what a field holds: the kind of the entry or item, the number of an object type, the number of an edge type, a position
-- or another number of four bytes, the moment of an entry, the id of an object, the moment from which an object expires
pub data Sort : Type 0 where
  Kind : Sort
  TypeNumber : Sort
  EdgeNumber : Sort
  Word : Sort
  Moment : Sort
  Id : Sort
  Due : Sort

-- one byte, four or eight
abbrev pub width_of : Sort → Width
width_of Kind = w8
width_of TypeNumber = w8
width_of EdgeNumber = w8
width_of Word = w32
width_of Moment = w64
width_of Id = w64
width_of Due = w64

-- the numbers that a field may hold; the number of an edge type fills its byte, and a due may pass the greatest moment
abbrev pub IsNumber : Sort → ℕ → Type 0
IsNumber Kind n = n < 2 ^ 8
IsNumber TypeNumber n = n < TYPE_COUNT
IsNumber EdgeNumber n = n < 2 ^ 8
IsNumber Word n = n < 2 ^ 32
IsNumber Moment n = n ≤ LAST_MOMENT
IsNumber Id n = (0 < n) × (n ≤ LAST_ID)
IsNumber Due n = n < 2 ^ 64

pub record Field : Type 0 where
  pub sort : Sort
  pub number : ℕ

abbrev pub kind : ℕ → Field
kind n = record { sort = Kind; number = n }

abbrev pub type_number : ℕ → Field
type_number n = record { sort = TypeNumber; number = n }

abbrev pub edge_number : ℕ → Field
edge_number n = record { sort = EdgeNumber; number = n }

abbrev pub word : ℕ → Field
word n = record { sort = Word; number = n }

abbrev pub moment : ℕ → Field
moment n = record { sort = Moment; number = n }

abbrev pub object_id : ℕ → Field
object_id n = record { sort = Id; number = n }

abbrev pub due : ℕ → Field
due n = record { sort = Due; number = n }

-- the fields one after the other
abbrev pub spelled : List Field → List ℕ
spelled [] = []
spelled (f ∷ fs) = to_be_bytes (width_of f.sort) f.number ++ spelled fs

-- each field holds a number that it may hold
abbrev pub AreFields : List Field → Type 0
AreFields [] = Unit {0}
AreFields (f ∷ fs) = IsNumber f.sort f.number × AreFields fs
