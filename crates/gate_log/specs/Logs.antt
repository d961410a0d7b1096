-- An area that stands for a list of records.
use Rattle.std.specs.Prelude.{◌≡◌, ◌≢◌, ℕ, zero, suc, ◌-◌, List, [], ◌∷◌, ◌++◌, length, map, take, drop, if◌then◌else◌, ◌==◌}
use Rattle.std.specs.Int.{w16, w32, from_be_bytes}
use Rattle.delf_disk.specs.declared.area.Area.{Area}
use Rattle.delf_disk.specs.Areas.{Areas, area_of}
use Rattle.gate_log.specs.Records.{Record, size_of, spelled, AreBounded}

-- the mark, these records, a closed gate, and whatever stands behind it
pub record Log (mark : List ℕ) (records : List Record) (bytes : List ℕ) : Type 0 where
  pub eight : length mark ≡ 8
  pub bounded : AreBounded records
  pub gate : ℕ
  pub closed : gate ≢ 165
  pub tail : List ℕ
  pub split : bytes ≡ mark ++ spelled records ++ gate ∷ tail

-- an area stands for some records of these sizes
pub record Stands (area : Area) (sizes : List (ℕ × ℕ)) (areas : Areas) : Type 0 where
  pub mark : List ℕ
  pub records : List Record
  pub sized : map size_of records ≡ sizes
  pub log : Log mark records (area_of area areas)

-- so does that area of each image
abbrev pub StandIn : Area → List (ℕ × ℕ) → (Areas → Type 0) → Type 0
StandIn area sizes images = (c : Areas) → images c → Stands area sizes c

-- the mark, these records, one more gate, and whatever stands behind it
pub record Front (mark : List ℕ) (records : List Record) (bytes : List ℕ) : Type 0 where
  pub eight : length mark ≡ 8
  pub bounded : AreBounded records
  pub gate : ℕ
  pub rest : List ℕ
  pub split : bytes ≡ mark ++ spelled records ++ gate ∷ rest

-- some records of these sizes stand at the front of the area
pub record Fronts (area : Area) (sizes : List (ℕ × ℕ)) (areas : Areas) : Type 0 where
  pub mark : List ℕ
  pub records : List Record
  pub sized : map size_of records ≡ sizes
  pub front : Front mark records (area_of area areas)

-- the area stands for these records now, with the closed gate and the tail that it had
pub record Keeps {mark : List ℕ} {records : List Record} {bytes : List ℕ} (log : Log mark records bytes) (after : List Record) (new : List ℕ) : Type 0 where
  pub log_now : Log mark after new
  pub same_gate : log_now.gate ≡ log.gate
  pub same_tail : log_now.tail ≡ log.tail

-- the records behind a mark, at most so many: they are read up to the first closed gate
abbrev pub records_within : ℕ → List ℕ → List Record
records_within zero bytes = []
records_within (suc n) [] = []
records_within (suc n) (gate ∷ rest) =
    if gate == 165 then
    (let body_length = from_be_bytes w32 (take 4 rest) in
    let head_length = from_be_bytes w16 (take 2 (drop 4 rest)) in
    let fields = drop 6 rest in
    record {
      head = take head_length fields;
      payload = take (body_length - 2 - head_length) (drop head_length fields);
    } ∷ records_within n (drop (body_length - 2) fields))
    else []

-- the records that an area holds
unfoldable pub records : List ℕ → List Record
records bytes = records_within (length bytes) (drop 8 bytes)
