-- One gate of an area.
use Rattle.std.specs.Prelude.{◌≡◌, ◌≢◌, ◌⊎◌, ℕ, List, ◌∷◌, ◌++◌, length}
use Rattle.delf_disk.specs.declared.area.Area.{Area}
use Rattle.delf_disk.specs.Areas.{Areas, area_of, rest_of}

-- a closed gate stands at this place, behind these bytes
pub record Shut (gate : ℕ) (front bytes : List ℕ) : Type 0 where
  pub place : length front ≡ gate
  pub value : ℕ
  pub closed : value ≢ 165
  pub tail : List ℕ
  pub split : bytes ≡ front ++ value ∷ tail

-- an open gate stands behind these bytes, and this line behind it
pub record Open (front line bytes : List ℕ) : Type 0 where
  pub tail : List ℕ
  pub split : bytes ≡ front ++ 165 ∷ (line ++ tail)

-- some closed gate stands there
pub record IsShut (gate : ℕ) (bytes : List ℕ) : Type 0 where
  pub front : List ℕ
  pub shut : Shut gate front bytes

abbrev pub ShutIn : Area → ℕ → (Areas → Type 0) → Type 0
ShutIn area gate images = (c : Areas) → images c → IsShut gate (area_of area c)

-- a closed gate stays closed, or is open with this line behind it
pub record MayOpen (area : Area) (gate : ℕ) (line : List ℕ) (old new : Areas) : Type 0 where
  pub other : rest_of area new ≡ rest_of area old
  pub here : (front : List ℕ) → Shut gate front (area_of area old) → Shut gate front (area_of area new) ⊎ Open front line (area_of area new)

pub record Opens (area : Area) (gate : ℕ) (line : List ℕ) (old new : Areas) : Type 0 where
  pub other : rest_of area new ≡ rest_of area old
  pub here : (front : List ℕ) → Shut gate front (area_of area old) → Open front line (area_of area new)

-- another value may stand at this place, and nothing else has changed
pub record MayChange (area : Area) (gate : ℕ) (old new : Areas) : Type 0 where
  pub other : rest_of area new ≡ rest_of area old
  pub here : (front : List ℕ) (value : ℕ) (tail : List ℕ) → length front ≡ gate → area_of area old ≡ front ++ value ∷ tail
      → (v : ℕ) × (area_of area new ≡ front ++ v ∷ tail)

-- a closed gate stands there
pub record Closes (area : Area) (gate : ℕ) (old new : Areas) : Type 0 where
  pub other : rest_of area new ≡ rest_of area old
  pub here : (front : List ℕ) (value : ℕ) (tail : List ℕ) → length front ≡ gate → area_of area old ≡ front ++ value ∷ tail
      → area_of area new ≡ front ++ 0 ∷ tail
