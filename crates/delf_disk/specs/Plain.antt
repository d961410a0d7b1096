-- What kind of disk it is.
use Rattle.std.specs.Prelude.{◌≡◌, ℕ, ◌+◌, ◌-◌, ◌^◌, min, max, Bool, false, IsTrue}
use Rattle.delf_disk.specs.declared.area.Order.{Order}

-- a disk that tells its bytes and is honest
abbrev pub Plain : Bool → Bool → Type 0
Plain told honest = IsTrue told × IsTrue honest

-- it tells its bytes as before, and is as honest
pub record SameTelling {D : Type 0} (told honest : D → Bool) (old new : D) : Type 0 where
  pub tells : told new ≡ told old
  pub keeps_word : honest new ≡ honest old

-- the same, and no order was given
pub record SameKind {D : Type 0} (told honest : D → Bool) (order : D → Order) (orders : D → ℕ) (old new : D) : Type 0 where
  pub tells : told new ≡ told old
  pub keeps_word : honest new ≡ honest old
  pub last_order : order new ≡ order old
  pub order_count : orders new ≡ orders old

-- one more, or the same at the greatest `u64`
abbrev pub NextCount : ℕ → ℕ → Type 0
NextCount before now = now ≡ max before (min (before + 1) (2 ^ 64 - 1))

-- one that tells nothing is not plain
pub not_plain : {P : Type 0} {honest : Bool} → Plain false honest → P
not_plain plain = absurd (cc (plain.0))
