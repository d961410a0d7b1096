-- What a call of a disk does to the bytes that read, and to what a crash may leave.
use Rattle.std.specs.Prelude.{◌≡◌, ◌⊎◌, ℕ, ◌+◌, ◌≤◌, min, max, List, ◌++◌, length, take, drop}
use Rattle.delf_disk.specs.declared.area.Area.{Area}
use Rattle.delf_disk.specs.Areas.{Areas, area_of, rest_of}

-- these bytes over what stands there from `at` on
abbrev pub overwritten : ℕ → List ℕ → List ℕ → List ℕ
overwritten at bytes old = take at old ++ bytes ++ drop (at + length bytes) old

-- after a write of n bytes that a crash cuts short: any bytes in the range and past the old end, the same elsewhere
pub record TornAt (at n : ℕ) (old new : List ℕ) : Type 0 where
  pub below : take (min at (length old)) new ≡ take at old
  pub above : drop (at + n) new ≡ drop (at + n) old
  pub no_shorter : length old ≤ length new
  pub no_longer : length new ≤ max (length old) (at + n)

-- the same in one area, and the other one as it was
pub record Torn (area : Area) (at n : ℕ) (old new : Areas) : Type 0 where
  pub here : TornAt at n (area_of area old) (area_of area new)
  pub other : rest_of area new ≡ rest_of area old

-- these bytes were written in one area, and the other one is as it was
pub record Written (area : Area) (at : ℕ) (bytes : List ℕ) (old new : Areas) : Type 0 where
  pub here : area_of area new ≡ overwritten at bytes (area_of area old)
  pub other : rest_of area new ≡ rest_of area old

-- nothing was changed
abbrev pub Same : Areas → Areas → Type 0
Same old new = new ≡ old

-- an image after a step
abbrev pub After : (Areas → Areas → Type 0) → (Areas → Type 0) → Areas → Type 0
After step images c = (d : Areas) × images d × step d c

-- a crash leaves this and nothing else
abbrev pub Only : Areas → (Areas → Type 0) → Type 0
Only areas images = (c : Areas) → images c → c ≡ areas

-- A call makes of each image one after a step, and time goes on: what a crash since t may have left is what it may
-- have left before the call, or what it may leave after it.
pub record Moves (step : Areas → Areas → Type 0) (before now : ℕ) (old new : Areas → Type 0) (past since : ℕ → Areas → Type 0) : Type 0 where
  pub later : before ≤ now
  pub follows : (c : Areas) → new c → After step old c
  pub nothing_else : (t : ℕ) (c : Areas) → t ≤ before → since t c → past t c ⊎ new c
  pub keeps : (t : ℕ) (c : Areas) → t ≤ before → past t c → since t c
