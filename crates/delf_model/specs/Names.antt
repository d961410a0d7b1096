-- The text of a name.
use Rattle.std.specs.Prelude.{ℕ, Bool, List, length, ◌&&◌, ◌||◌, nat_le, nat_eq, IsTrue}
use Rattle.std.specs.List.{list_all}

-- a byte of a name: a to z, 0 to 9 and _
abbrev pub is_name_code : ℕ → Bool
is_name_code byte =
    (nat_le 97 byte && nat_le byte 122) || (nat_le 48 byte && nat_le byte 57) || nat_eq byte 95

-- a name: 1 to 32 such bytes
abbrev pub is_name : List ℕ → Bool
is_name text = nat_le 1 (length text) && nat_le (length text) 32 && list_all is_name_code text

abbrev pub IsName : List ℕ → Type 0
IsName text = IsTrue (is_name text)
