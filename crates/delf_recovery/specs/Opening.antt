-- What an opening answers, and what it leaves.
use Rattle.std.specs.Prelude.{◌≡◌, ℕ, ◌<◌, ◌≤◌, List, length, Result, Ok, Err}
use Rattle.delf_disk.specs.declared.area.Area.{Area}
use Rattle.delf_disk.specs.declared.area.Area.TheVariants.{Journal}
use Rattle.delf_disk.specs.Areas.{Areas}
use Rattle.delf_disk.specs.Causes.{Rose}
use Rattle.delf_model.specs.declared.entry.Entry.{Entry}
use Rattle.delf_model.specs.RuleSet.{RuleSet}
use Rattle.delf_model.specs.Payloads.{Payloads}
use Rattle.delf_book.specs.Books.{Booked}
use Rattle.store_laws.specs.Stores.{StandBut}
use Rattle.entry_codec.specs.EntryHead.{AreEntries}
use Rattle.opening_laws.specs.Places.{BadPlace}
use Rattle.delf_recovery.specs.declared.fault.OpenFault.{OpenFault}
use Rattle.delf_recovery.specs.declared.fault.OpenFault.TheVariants.{DiskFault, OutOfMemory, BadStore}

-- the disk after an opening
abbrev pub rig_in : {G R : Type 0} → Result (Booked G R) (OpenFault × R) → R
rig_in (Ok book) = book.rig
rig_in (Err it) = it.1

-- the disk that an opening gives back
abbrev pub disk_in : {P D : Type 0} → Result (P × D) (OpenFault × D) → D
disk_in (Ok it) = it.1
disk_in (Err it) = it.1

-- these areas stand for this history, whose entries have a spelling
pub record StandsNow (rules : RuleSet) (history : List Entry) (areas : Areas) : Type 0 where
  pub entries : AreEntries history
  pub payloads : Payloads
  pub stand : StandBut rules history payloads areas

-- what a fault tells of the areas
abbrev pub IsBadAt : RuleSet → Areas → OpenFault → Type 0
IsBadAt rules areas DiskFault = Unit {0}
IsBadAt rules areas OutOfMemory = Unit {0}
IsBadAt rules areas (BadStore area at) = BadPlace rules areas area at

abbrev pub IsNotBad : OpenFault → Type 0
IsNotBad DiskFault = Unit {0}
IsNotBad OutOfMemory = Unit {0}
IsNotBad (BadStore area at) = ⊥

-- this place is told, unless the disk failed or memory was wanting
abbrev pub OnlyBad : {T R : Type 0} → Area → ℕ → Result T (OpenFault × R) → Type 0
OnlyBad area at (Ok book) = ⊥
OnlyBad area at (Err (DiskFault, rig)) = Unit {0}
OnlyBad area at (Err (OutOfMemory, rig)) = Unit {0}
OnlyBad area at (Err (BadStore other place, rig)) = (other ≡ area) × (place ≡ at)

-- a store whose journal is bad is not written
abbrev pub StaysUnwritten : {T R : Type 0} → (R → Areas) → (R → Areas → Type 0) → R → Result T (OpenFault × R) → Type 0
StaysUnwritten seen may_leave old (Ok book) = Unit {0}
StaysUnwritten seen may_leave old (Err (DiskFault, rig)) = Unit {0}
StaysUnwritten seen may_leave old (Err (OutOfMemory, rig)) = Unit {0}
StaysUnwritten seen may_leave old (Err (BadStore Journal at, rig)) = (seen rig ≡ seen old) × ((c : Areas) → may_leave rig c → may_leave old c)
StaysUnwritten seen may_leave old (Err (BadStore other at, rig)) = Unit {0}

-- an area of more than nine bytes is as it was, and one of at most nine has at most nine
pub record IsKept (old new : List ℕ) : Type 0 where
  pub longer : 9 < length old → new ≡ old
  pub blank : length old ≤ 9 → length new ≤ 9

-- both areas are: all that may have been written is the mark of one that was blank
pub record KeepsLonger (old new : Areas) : Type 0 where
  pub journal : IsKept old.journal new.journal
  pub vault : IsKept old.vault new.vault

-- and the store is bad at this place
pub record StaysBad (rules : RuleSet) (area : Area) (at : ℕ) (old new : Areas) : Type 0 where
  pub kept : KeepsLonger old new
  pub bad : BadPlace rules new area at

-- Where an opening ends with want of memory or at a bad place, whatever a crash leaves are the areas as they read when it
-- began, but for the marks of blank ones, and the store is bad at the place that is told.
abbrev pub StaysAsRead : {R : Type 0} → RuleSet → Areas → (R → Areas → Type 0) → R → OpenFault → Type 0
StaysAsRead rules areas may_leave rig DiskFault = Unit {0}
StaysAsRead rules areas may_leave rig OutOfMemory = (c : Areas) → may_leave rig c → KeepsLonger areas c
StaysAsRead rules areas may_leave rig (BadStore area at) = (c : Areas) → may_leave rig c → StaysBad rules area at areas c

-- where memory was wanting, whatever a crash leaves has P
abbrev pub WantLeaves : {R : Type 0} → (R → Areas → Type 0) → (Areas → Type 0) → R → OpenFault → Type 0
WantLeaves may_leave P rig DiskFault = Unit {0}
WantLeaves may_leave P rig OutOfMemory = (c : Areas) → may_leave rig c → P c
WantLeaves may_leave P rig (BadStore area at) = Unit {0}

-- the count of faults stays, but where a disk fault is answered, where it rises
abbrev pub CountsOpening : {T R : Type 0} → ℕ → ℕ → Result T (OpenFault × R) → Type 0
CountsOpening before now (Ok book) = now ≡ before
CountsOpening before now (Err (DiskFault, rig)) = (before ≤ now) × Rose before now
CountsOpening before now (Err (OutOfMemory, rig)) = now ≡ before
CountsOpening before now (Err (BadStore area at, rig)) = now ≡ before
