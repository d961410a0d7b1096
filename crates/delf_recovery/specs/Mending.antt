-- What an opening makes of areas that it has read.
use Rattle.std.specs.Prelude.{◌≡◌, ℕ, Bool, true, List, Some, length, replicate, slice_get}
use Rattle.delf_disk.specs.declared.area.Area.{Area}
use Rattle.delf_disk.specs.Areas.{Areas}
use Rattle.delf_model.specs.declared.entry.Entry.{Entry}
use Rattle.delf_model.specs.RuleSet.{RuleSet}
use Rattle.delf_model.specs.Payloads.{Payloads, Carrier}
use Rattle.store_laws.specs.Logged.{IsLog}
use Rattle.store_laws.specs.Stores.{StandBut, journal_mark, vault_mark}
use Rattle.store_laws.specs.Steps.{payload_here}
use Rattle.store_laws.specs.Moves.{RestIn}
use Rattle.delf_book.specs.Reads.{carrier_in}

-- both areas have their marks and stand for the history
pub record Standing (rules : RuleSet) (history : List Entry) (areas : Areas) : Type 0 where
  pub journal : IsLog journal_mark areas.journal
  pub vault : IsLog vault_mark areas.vault
  pub payloads : Payloads
  pub stand : StandBut rules history payloads areas

-- each image rests with the history
pub record Resting (rules : RuleSet) (history : List Entry) (images : Areas → Type 0) : Type 0 where
  pub payloads : Payloads
  pub rests : RestIn rules history payloads images

-- zeros stand in the payload of this record
abbrev pub IsZero : Carrier → Areas → Type 0
IsZero carrier areas = payload_here areas carrier ≡ replicate (length (payload_here areas carrier)) 0

-- zeros stand in the payloads of the records of an area that are noted
abbrev pub AreNoted : Area → Areas → List Bool → Type 0
AreNoted area areas notes = (i : ℕ) → slice_get notes i ≡ Some true → IsZero (carrier_in area i) areas
