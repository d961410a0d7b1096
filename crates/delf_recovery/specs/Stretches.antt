-- Bytes of an area that were read ahead.
use Rattle.std.specs.Prelude.{◌≡◌, ℕ, List, length, take, drop}
use Rattle.delf_disk.specs.declared.area.Area.{Area}
use Rattle.delf_disk.specs.Areas.{Areas, area_of}

-- so many bytes of an area from one place on
pub record Stretch : Type 0 where
  pub area : Area
  pub at : ℕ
  pub bytes : List ℕ

-- the areas have these bytes there
abbrev pub IsPartOf : Stretch → Areas → Type 0
IsPartOf stretch areas = stretch.bytes ≡ take (length stretch.bytes) (drop stretch.at (area_of stretch.area areas))
