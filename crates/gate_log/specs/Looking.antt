-- What one step of a scan finds.
use Rattle.std.specs.Prelude.{◌≡◌, ◌≢◌, ◌⊎◌, ℕ, Bool, true, false, ◌+◌, ◌^◌, ◌<◌, ◌≤◌, List, ◌∷◌, length, slice_index, map, take, drop, Option, Some, None, Result, Ok, Err}
use Rattle.std.specs.Int.{w16, w32, from_be_bytes}
use Rattle.gate_log.specs.declared.fault.LogFault.{LogFault}
use Rattle.gate_log.specs.declared.fault.LogFault.TheVariants.{Failed, NotOurs, Broken, OutOfMemory}
use Rattle.gate_log.specs.declared.lengths.Lengths.{Lengths}
use Rattle.gate_log.specs.declared.scan.Place.{Place}
use Rattle.gate_log.specs.declared.scan.Scan.{Scan}
use Rattle.gate_log.specs.Records.{Record, size_of}
use Rattle.gate_log.specs.Logs.{Log}
use Rattle.gate_log.specs.Places.{sizes_at}
use Rattle.gate_log.specs.Opening.{Fits, IsUnfit, IsForeign, IsBroken, BreaksOff}

-- the two lengths that six bytes tell, of a record that is to end, with its gate, within so many bytes
pub record Told (start : List ℕ) (room : ℕ) (lengths : Lengths) : Type 0 where
  pub bytes : (i : ℕ) → slice_index start i < 256
  pub body_length : from_be_bytes w32 (take 4 start) ≡ 2 + lengths.head + lengths.payload
  pub head_length : from_be_bytes w16 (drop 4 start) ≡ lengths.head
  pub within : 7 + lengths.head + lengths.payload ≤ room
  pub head_small : lengths.head < 2 ^ 16
  pub body_small : 2 + lengths.head + lengths.payload < 2 ^ 32

-- they tell of none
abbrev pub TellNone : List ℕ → ℕ → Type 0
TellNone start room =
    (from_be_bytes w32 (take 4 start) < 2 + from_be_bytes w16 (drop 4 start)) ⊎ (room < 5 + from_be_bytes w32 (take 4 start))

-- a closed gate stands at this place
pub record ClosedAt (at : ℕ) (bytes : List ℕ) : Type 0 where
  pub gate : ℕ
  pub closed : gate ≢ 165
  pub tail : List ℕ
  pub split : drop at bytes ≡ gate ∷ tail

-- an open one does, and a record of these lengths
pub record OpenAt (at : ℕ) (lengths : Lengths) (bytes : List ℕ) : Type 0 where
  pub rest : List ℕ
  pub split : drop at bytes ≡ 165 ∷ rest
  pub head : List ℕ
  pub payload : List ℕ
  pub head_length : length head ≡ lengths.head
  pub payload_length : length payload ≡ lengths.payload
  pub fits : Fits head payload rest

-- an open one does, and no record
pub record BrokenAt (at : ℕ) (bytes : List ℕ) : Type 0 where
  pub rest : List ℕ
  pub split : drop at bytes ≡ 165 ∷ rest
  pub unfit : IsUnfit rest

abbrev pub Looked : ℕ → List ℕ → Result (Option Lengths) LogFault → Type 0
Looked at bytes (Ok None) = ClosedAt at bytes
Looked at bytes (Ok (Some lengths)) = OpenAt at lengths bytes
Looked at bytes (Err (Broken k)) = (k ≡ at) × BrokenAt at bytes
Looked at bytes (Err NotOurs) = ⊥
Looked at bytes (Err Failed) = Unit {0}
Looked at bytes (Err OutOfMemory) = Unit {0}

-- the records up to the first closed gate, or the place of the first that is broken
abbrev pub Scanned : List ℕ → List ℕ → Result Scan LogFault → Type 0
Scanned mark bytes (Ok scan) = (records : List Record) × (map size_of records ≡ sizes_at scan.places.items) × Log mark records bytes
Scanned mark bytes (Err (Broken at)) = IsBroken mark bytes at
Scanned mark bytes (Err NotOurs) = IsForeign mark bytes
Scanned mark bytes (Err Failed) = Unit {0}
Scanned mark bytes (Err OutOfMemory) = Unit {0}

-- the records up to the first gate that is closed, or behind which there is no record
abbrev pub Reached : Bool → List ℕ → List ℕ → List Place → Type 0
Reached true mark bytes places = (records : List Record) × (map size_of records ≡ sizes_at places) × Log mark records bytes
Reached false mark bytes places = BreaksOff mark (sizes_at places) bytes

abbrev pub ScannedFront : List ℕ → List ℕ → Result Scan LogFault → Type 0
ScannedFront mark bytes (Ok scan) = Reached scan.whole mark bytes scan.places.items
ScannedFront mark bytes (Err (Broken at)) = ⊥
ScannedFront mark bytes (Err NotOurs) = IsForeign mark bytes
ScannedFront mark bytes (Err Failed) = Unit {0}
ScannedFront mark bytes (Err OutOfMemory) = Unit {0}
