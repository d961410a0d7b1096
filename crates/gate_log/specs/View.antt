-- What a caller sees of a log.
use Rattle.std.specs.Prelude.{ℕ, List}
use Rattle.delf_disk.specs.declared.area.Area.{Area}

-- its area, the lengths of the head and the payload of each record, and for how many more records there is room
pub record LogView : Type 0 where
  pub area : Area
  pub sizes : List (ℕ × ℕ)
  pub spare : ℕ
