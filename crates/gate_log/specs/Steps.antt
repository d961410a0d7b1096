-- What each call of a log does to the areas: at any moment, and once it has answered Ok.
use Rattle.std.specs.Prelude.{◌≡◌, ◌⊎◌, ℕ, List, [], ◌∷◌, ◌++◌, length, map, replicate}
use Rattle.delf_disk.specs.declared.area.Area.{Area}
use Rattle.delf_disk.specs.Areas.{Areas, area_of, rest_of}
use Rattle.gate_log.specs.Records.{Record, size_of, head_of, payload_of, replaced}
use Rattle.gate_log.specs.Logs.{Log, Front, Keeps}

-- the records as they were, or with this one more
pub record MayAdd (area : Area) (sizes : List (ℕ × ℕ)) (head payload : List ℕ) (old new : Areas) : Type 0 where
  pub other : rest_of area new ≡ rest_of area old
  pub here : (mark : List ℕ) (records : List Record) → map size_of records ≡ sizes → Log mark records (area_of area old)
      → Log mark records (area_of area new) ⊎ Log mark (records ++ record { head = head; payload = payload } ∷ []) (area_of area new)

pub record Adds (area : Area) (sizes : List (ℕ × ℕ)) (head payload : List ℕ) (old new : Areas) : Type 0 where
  pub other : rest_of area new ≡ rest_of area old
  pub here : (mark : List ℕ) (records : List Record) → map size_of records ≡ sizes → Log mark records (area_of area old)
      → Log mark (records ++ record { head = head; payload = payload } ∷ []) (area_of area new)
  -- the closed gate behind it has the value 0
  pub gate_written : (mark : List ℕ) (records : List Record) (sized : map size_of records ≡ sizes) (log : Log mark records (area_of area old))
      → (here mark records sized log).gate ≡ 0

-- any bytes in the payload of record i, and no other change
pub record MayScrub (area : Area) (sizes : List (ℕ × ℕ)) (i : ℕ) (old new : Areas) : Type 0 where
  pub other : rest_of area new ≡ rest_of area old
  pub here : (mark : List ℕ) (records : List Record) → map size_of records ≡ sizes → (log : Log mark records (area_of area old))
      → (payload : List ℕ) × (length payload ≡ length (payload_of records i)) × Keeps log (replaced records i payload) (area_of area new)

-- zeros there
pub record Scrubs (area : Area) (sizes : List (ℕ × ℕ)) (i : ℕ) (old new : Areas) : Type 0 where
  pub other : rest_of area new ≡ rest_of area old
  pub here : (mark : List ℕ) (records : List Record) → map size_of records ≡ sizes → (log : Log mark records (area_of area old))
      → Keeps log (replaced records i (replicate (length (payload_of records i)) 0)) (area_of area new)

-- the records as they were, or without the last one
pub record MayDrop (area : Area) (sizes : List (ℕ × ℕ)) (old new : Areas) : Type 0 where
  pub other : rest_of area new ≡ rest_of area old
  pub here : (mark : List ℕ) (records : List Record) (last : Record) → map size_of (records ++ last ∷ []) ≡ sizes → Log mark (records ++ last ∷ []) (area_of area old)
      → Log mark (records ++ last ∷ []) (area_of area new) ⊎ Log mark records (area_of area new)

pub record Drops (area : Area) (sizes : List (ℕ × ℕ)) (old new : Areas) : Type 0 where
  pub other : rest_of area new ≡ rest_of area old
  pub here : (mark : List ℕ) (records : List Record) (last : Record) → map size_of (records ++ last ∷ []) ≡ sizes → Log mark (records ++ last ∷ []) (area_of area old)
      → Log mark records (area_of area new)
  -- its gate, which is the closed one now, has the value 0
  pub gate_written : (mark : List ℕ) (records : List Record) (last : Record) (sized : map size_of (records ++ last ∷ []) ≡ sizes) (log : Log mark (records ++ last ∷ []) (area_of area old))
      → (here mark records last sized log).gate ≡ 0

-- any bytes behind the closed gate, which keeps its value
pub record MaySettle (area : Area) (sizes : List (ℕ × ℕ)) (old new : Areas) : Type 0 where
  pub other : rest_of area new ≡ rest_of area old
  pub here : (mark : List ℕ) (records : List Record) → map size_of records ≡ sizes → (log : Log mark records (area_of area old))
      → (log_now : Log mark records (area_of area new)) × (log_now.gate ≡ log.gate)

-- zeros there
pub record Settles (area : Area) (sizes : List (ℕ × ℕ)) (old new : Areas) : Type 0 where
  pub other : rest_of area new ≡ rest_of area old
  pub here : (mark : List ℕ) (records : List Record) → map size_of records ≡ sizes → (log : Log mark records (area_of area old))
      → (log_now : Log mark records (area_of area new)) × (log_now.gate ≡ log.gate) × (log_now.tail ≡ replicate (length log.tail) 0)

-- these bytes are the head, or the payload, of record i
abbrev pub HeadRead : Area → List (ℕ × ℕ) → ℕ → Areas → List ℕ → Type 0
HeadRead area sizes i areas bytes =
    (mark : List ℕ) (records : List Record) → map size_of records ≡ sizes → Log mark records (area_of area areas) → bytes ≡ head_of records i

abbrev pub PayloadRead : Area → List (ℕ × ℕ) → ℕ → Areas → List ℕ → Type 0
PayloadRead area sizes i areas bytes =
    (mark : List ℕ) (records : List Record) → map size_of records ≡ sizes → Log mark records (area_of area areas) → bytes ≡ payload_of records i

-- the same in an area of which records of these sizes stand at the front
abbrev pub FrontHeadRead : Area → List (ℕ × ℕ) → ℕ → Areas → List ℕ → Type 0
FrontHeadRead area sizes i areas bytes =
    (mark : List ℕ) (records : List Record) → map size_of records ≡ sizes → Front mark records (area_of area areas) → bytes ≡ head_of records i
