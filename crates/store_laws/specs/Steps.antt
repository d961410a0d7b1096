-- What the steps of both logs make of the areas.
use Rattle.std.specs.Prelude.{◌≡◌, ℕ, List, ◌++◌, length, replicate, Contains}
use Rattle.delf_disk.specs.Areas.{Areas}
use Rattle.gate_log.specs.Records.{Record}
use Rattle.delf_model.specs.declared.entry.Entry.{Entry}
use Rattle.delf_model.specs.RuleSet.{RuleSet}
use Rattle.delf_model.specs.State.{State}
use Rattle.delf_model.specs.Payloads.{Payloads, Carrier}
use Rattle.payload_laws.specs.Holders.{IsLive}
use Rattle.store_laws.specs.Logged.{IsLog}
use Rattle.store_laws.specs.Stores.{journal_mark, vault_mark, payload_in, journal_of, vault_of, vault_for, Hold}

-- the journal of a history, and a vault with these records behind those of its items
pub record Ahead (rules : RuleSet) (history : List Entry) (e : Payloads) (added : List Record) (areas : Areas) : Type 0 where
  pub journal : IsLog journal_mark areas.journal
  pub vault : IsLog vault_mark areas.vault
  pub more : vault_of areas ≡ vault_for rules history areas ++ added
  pub hold : Hold rules history e (journal_of areas) (vault_for rules history areas)

-- the payload in a record of either area
abbrev pub payload_here : Areas → Carrier → List ℕ
payload_here areas carrier = payload_in (journal_of areas) (vault_of areas) carrier

-- zeros stand in the payload of this record
abbrev pub IsZeroed : Carrier → Areas → Areas → Type 0
IsZeroed carrier old new = payload_here new carrier ≡ replicate (length (payload_here old carrier)) 0

-- every other payload is as it was
abbrev pub KeepsOthers : Carrier → Areas → Areas → Type 0
KeepsOthers carrier old new = (other : Carrier) → (other ≡ carrier → ⊥) → payload_here new other ≡ payload_here old other

-- zeros in every payload that is not needed, but for these records
abbrev pub AreScrubbedBut : State → List Carrier → List Record → List Record → Type 0
AreScrubbedBut s left journal vault =
    (carrier : Carrier) → (IsLive s carrier → ⊥) → (Contains left carrier → ⊥) →
    payload_in journal vault carrier ≡ replicate (length (payload_in journal vault carrier)) 0
