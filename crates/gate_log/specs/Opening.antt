-- What an area is read as when its log is started.
use Rattle.std.specs.Prelude.{◌≡◌, ◌≢◌, ℕ, ◌<◌, ◌≤◌, List, [], ◌∷◌, ◌++◌, length, map, take, Result, Ok, Err}
use Rattle.delf_disk.specs.declared.area.Area.{Area}
use Rattle.delf_disk.specs.Areas.{Areas, area_of, rest_of}
use Rattle.delf_disk.specs.Causes.{Rose}
use Rattle.gate_log.specs.declared.fault.LogFault.{LogFault}
use Rattle.gate_log.specs.declared.fault.LogFault.TheVariants.{Failed, NotOurs, Broken, OutOfMemory}
use Rattle.gate_log.specs.Records.{Record, size_of, body, spelled, IsBounded, AreBounded}
use Rattle.gate_log.specs.Logs.{Log}

-- a record with the gate that follows it stands at the front of these bytes
pub record Fits (head payload rest : List ℕ) : Type 0 where
  pub bounded : IsBounded head payload
  pub gate : ℕ
  pub tail : List ℕ
  pub split : rest ≡ body head payload ++ gate ∷ tail

-- no record with the gate that follows it does: they do not end within the bytes, or the two lengths agree with no body
abbrev pub IsUnfit : List ℕ → Type 0
IsUnfit rest = (head payload : List ℕ) → Fits head payload rest → ⊥

-- more than nine bytes, and another mark
pub record IsForeign (mark bytes : List ℕ) : Type 0 where
  pub longer : 9 < length bytes
  pub another : take 8 bytes ≢ mark

-- more than nine bytes, and an open gate at this place behind which there is no record with its gate
pub record IsBroken (mark bytes : List ℕ) (at : ℕ) : Type 0 where
  pub longer : 9 < length bytes
  pub records : List Record
  pub bounded : AreBounded records
  pub rest : List ℕ
  pub split : bytes ≡ mark ++ spelled records ++ 165 ∷ rest
  pub place : at ≡ length (mark ++ spelled records)
  pub unfit : IsUnfit rest

-- the mark, records of these sizes, and an open gate behind which there is no record with its gate
pub record BreaksOff (mark : List ℕ) (sizes : List (ℕ × ℕ)) (bytes : List ℕ) : Type 0 where
  pub longer : 9 < length bytes
  pub records : List Record
  pub sized : map size_of records ≡ sizes
  pub bounded : AreBounded records
  pub rest : List ℕ
  pub split : bytes ≡ mark ++ spelled records ++ 165 ∷ rest
  pub unfit : IsUnfit rest

-- The count of faults stays, but for `Failed`, where it rises.
abbrev pub CountsFailure : {T : Type 0} → ℕ → ℕ → Result T LogFault → Type 0
CountsFailure before now (Ok x) = now ≡ before
CountsFailure before now (Err Failed) = (before ≤ now) × Rose before now
CountsFailure before now (Err NotOurs) = now ≡ before
CountsFailure before now (Err (Broken at)) = now ≡ before
CountsFailure before now (Err OutOfMemory) = now ≡ before

-- What each fault of a start tells of the area. Where it has at most nine bytes, there is no fault but `Failed`.
abbrev pub Shows : List ℕ → List ℕ → LogFault → Type 0
Shows mark bytes Failed = Unit {0}
Shows mark bytes NotOurs = IsForeign mark bytes
Shows mark bytes (Broken at) = IsBroken mark bytes at
Shows mark bytes OutOfMemory = 9 < length bytes

-- the same of a start that gives the front of an area that breaks off
abbrev pub ShowsFront : List ℕ → List ℕ → LogFault → Type 0
ShowsFront mark bytes Failed = Unit {0}
ShowsFront mark bytes NotOurs = IsForeign mark bytes
ShowsFront mark bytes (Broken at) = ⊥
ShowsFront mark bytes OutOfMemory = 9 < length bytes

-- A start at Ok: an area of at most nine bytes was given its mark and a closed gate, and a longer one is read as it is.
pub record Starts (area : Area) (mark : List ℕ) (sizes : List (ℕ × ℕ)) (old new : Areas) : Type 0 where
  pub other : rest_of area new ≡ rest_of area old
  pub blank : length (area_of area old) ≤ 9 → (sizes ≡ []) × (area_of area new ≡ mark ++ 0 ∷ [])
  pub longer : 9 < length (area_of area old) → area_of area new ≡ area_of area old
  pub records : List Record
  pub sized : map size_of records ≡ sizes
  pub log : Log mark records (area_of area new)

-- this fault, unless the disk failed or memory was wanting
abbrev pub OnlyFault : {T : Type 0} → LogFault → Result T LogFault → Type 0
OnlyFault fault (Ok x) = ⊥
OnlyFault fault (Err Failed) = Unit {0}
OnlyFault fault (Err NotOurs) = fault ≡ NotOurs
OnlyFault fault (Err (Broken at)) = fault ≡ Broken at
OnlyFault fault (Err OutOfMemory) = Unit {0}
