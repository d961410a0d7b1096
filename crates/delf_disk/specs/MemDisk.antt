-- What a disk in memory shows.
use Rattle.std.specs.Prelude.{◌≡◌, ◌⊎◌, ℕ, Bool, true, false, List, [], ◌∷◌, ◌++◌, Result, IsOk, IsErr}
use Rattle.delf_disk.specs.declared.area.Area.{Area}
use Rattle.delf_disk.specs.declared.area.Failed.{Failed}
use Rattle.delf_disk.specs.declared.mem_disk.MemDisk.{MemDisk}
use Rattle.delf_disk.specs.declared.past.Write.{Write}
use Rattle.delf_disk.specs.Areas.{Areas}
use Rattle.delf_disk.specs.Content.{areas_of}
use Rattle.delf_disk.specs.Counts.{next, IsSetToFail}

-- the bytes as they read
abbrev pub seen_of : MemDisk → Areas
seen_of disk = areas_of disk.live

-- the stable bytes
abbrev pub stable_of : MemDisk → Areas
stable_of disk = areas_of disk.stable

-- the writes that no sync covers, failed ones included, the oldest first
abbrev pub pending_of : MemDisk → List Write
pending_of disk = disk.pending.items

-- the numbers, from 1, of the calls that fail
abbrev pub fails_of : MemDisk → List ℕ
fails_of disk = disk.counts.fails.items

-- how many disk calls there were, up to the greatest `u64`
abbrev pub calls_of : MemDisk → ℕ
calls_of disk = disk.counts.calls

-- how many of them failed, up to the greatest `u64`
abbrev pub faults_of : MemDisk → ℕ
faults_of disk = disk.counts.faults

-- how many of them were refused memory, up to the greatest `u64`
abbrev pub starved_of : MemDisk → ℕ
starved_of disk = disk.counts.starved

-- the next call is set to fail
abbrev pub IsNextToFail : MemDisk → Type 0
IsNextToFail disk = IsSetToFail disk.counts.fails.items disk.counts.calls disk.counts.fuse

-- one call more, and the same numbers are to fail
pub record CountsCall (old new : MemDisk) : Type 0 where
  pub calls : calls_of new ≡ next (calls_of old)
  pub fails : fails_of new ≡ fails_of old

-- what is stable and what is pending stay
pub record KeepsPending (old new : MemDisk) : Type 0 where
  pub stable : stable_of new ≡ stable_of old
  pub pending : pending_of new ≡ pending_of old

-- one write more is pending
pub record Appends (old new : MemDisk) (area : Area) (at : ℕ) (bytes : List ℕ) (landed : Bool) : Type 0 where
  pub write : Write
  pub area_is : write.area ≡ area
  pub at_is : write.at ≡ at
  pub bytes_are : write.bytes.items ≡ bytes
  pub landed_is : write.landed ≡ landed
  pub stable : stable_of new ≡ stable_of old
  pub pending : pending_of new ≡ pending_of old ++ write ∷ []

-- a write that did its work: it was not set to fail, and is pending
pub record Lands {T : Type 0} (old new : MemDisk) (area : Area) (at : ℕ) (bytes : List ℕ) (result : Result T Failed) : Type 0 where
  pub is_ok : IsOk result
  pub not_set : IsNextToFail old → ⊥
  pub appends : Appends old new area at bytes true
  pub faults : faults_of new ≡ faults_of old
  pub starved : starved_of new ≡ starved_of old

-- a write that was set to fail: it is pending too, since a crash may leave it
pub record FailsAsSet {T : Type 0} (old new : MemDisk) (area : Area) (at : ℕ) (bytes : List ℕ) (result : Result T Failed) : Type 0 where
  pub is_err : IsErr result
  pub is_set : IsNextToFail old
  pub appends : Appends old new area at bytes false
  pub faults : faults_of new ≡ next (faults_of old)
  pub starved : starved_of new ≡ starved_of old

-- a write that was refused memory, set to fail or not: it is not pending
pub record IsRefused {T : Type 0} (old new : MemDisk) (result : Result T Failed) : Type 0 where
  pub is_err : IsErr result
  pub keeps : KeepsPending old new
  pub faults : faults_of new ≡ next (faults_of old)
  pub starved : starved_of new ≡ next (starved_of old)

-- How a write ends. The answer tells the first way from the two others, and the list of pending writes tells those apart.
abbrev pub Ends : {T : Type 0} → MemDisk → MemDisk → Area → ℕ → List ℕ → Result T Failed → Type 0
Ends old new area at bytes result =
    Lands old new area at bytes result ⊎ (FailsAsSet old new area at bytes result ⊎ IsRefused old new result)
