-- The object items of a job that are not handled yet, counted by job and birth.
use Rattle.std.specs.Prelude.{◌≡◌, ℕ, ◌+◌, ◌*◌, ◌≤◌, ◌^◌, Bool, false, ◌&&◌, nat_eq, List, Option, Some, None, is_none, count_by, unwrap_or}
use Rattle.delf_model.specs.declared.rows.Item.{Item}
use Rattle.delf_model.specs.declared.rows.Item.TheVariants as item
use Rattle.delf_model.specs.State.{Logged}

-- one number for a job and a birth
abbrev pub end_key : ℕ → ℕ → ℕ
end_key job birth = job * 2 ^ 32 + birth

-- that of an object item
abbrev pub key_of_item : Item → Option ℕ
key_of_item (item.Object job row) = Some (end_key job row.birth)
key_of_item (item.Edge job row from_birth to_birth) = None

abbrev pub is_key : ℕ → Option ℕ → Bool
is_key key None = false
is_key key (Some other) = nat_eq other key

-- an object item with this number that is not handled
abbrev pub is_open_end : ℕ → Logged → Bool
is_open_end key logged = is_key key (key_of_item logged.item) && is_none logged.handled

-- each number has its count, and there is room for the spare
pub record EndsFit (list : List Logged) (count_at : ℕ → Option ℕ) (room spare : ℕ) : Type 0 where
  pub counts : (key : ℕ) → unwrap_or (count_at key) 0 ≡ count_by (is_open_end key) list
  pub ends_spare : spare ≤ room
