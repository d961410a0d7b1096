-- The bytes of both areas, and of one and the other.
use Rattle.std.specs.Prelude.{ℕ, List}
use Rattle.delf_disk.specs.declared.area.Area.{Area}
use Rattle.delf_disk.specs.declared.area.Area.TheVariants.{Journal, Vault}

pub record Areas : Type 0 where
  pub journal : List ℕ
  pub vault : List ℕ

-- the bytes of this area
abbrev pub area_of : Area → Areas → List ℕ
area_of Journal areas = areas.journal
area_of Vault areas = areas.vault

-- the bytes of the other area
abbrev pub rest_of : Area → Areas → List ℕ
rest_of Journal areas = areas.vault
rest_of Vault areas = areas.journal

-- these bytes in this area, and the other one as it is
abbrev pub with_area : Area → List ℕ → Areas → Areas
with_area Journal bytes areas = record { journal = bytes; vault = areas.vault }
with_area Vault bytes areas = record { journal = areas.journal; vault = bytes }
