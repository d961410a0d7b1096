-- Bytes that are laid over a list, also past its end.
use Rattle.std.specs.Prelude.{ℕ, ◌-◌, List, ◌++◌, length, replicate}
use Rattle.delf_disk.specs.declared.area.Area.{Area}
use Rattle.delf_disk.specs.Areas.{Areas, area_of, with_area}
use Rattle.delf_disk.specs.Images.{overwritten}

-- zeros fill a gap up to `at`
abbrev pub padded : ℕ → List ℕ → List ℕ
padded at old = old ++ replicate (at - length old) 0

-- the same, and then these bytes from `at` on
abbrev pub overlaid : ℕ → List ℕ → List ℕ → List ℕ
overlaid at bytes old = overwritten at bytes (padded at old)

-- the same in one area
abbrev pub overlaid_in : Area → ℕ → List ℕ → Areas → Areas
overlaid_in area at bytes areas = with_area area (overlaid at bytes (area_of area areas)) areas
