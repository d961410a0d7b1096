-- What is written of one entry, and over which images.
use Rattle.std.specs.Prelude.{◌≡◌, ℕ, ◌≤◌, true, List, [], ◌∷◌, ◌++◌, Option, Some, None, length}
use Rattle.delf_disk.specs.Areas.{Areas}
use Rattle.gate_log.specs.Records.{Record}
use Rattle.entry_codec.specs.EntryHead.{entry_head, IsEntry}
use Rattle.delf_model.specs.declared.entry.Entry.{Entry}
use Rattle.delf_model.specs.RuleSet.{RuleSet}
use Rattle.delf_model.specs.Step.{after}
use Rattle.delf_model.specs.Legal.{Legal, is_legal}
use Rattle.delf_model.specs.Payloads.{Payloads, Carrier, Journal, payloads_after}
use Rattle.store_laws.specs.Stores.{digest, journal_of, vault_of, vault_for, Rest, Hold}
use Rattle.store_laws.specs.Moves.{IsEntryRecord, AreItemRecords}
use Rattle.store_laws.specs.Steps.{Ahead, IsZeroed, KeepsOthers}

-- the journal record of an entry
abbrev pub record_of : Entry → List ℕ → Record
record_of entry payload = record { head = entry_head entry; payload = payload }

-- The entry may come next, each image has the records of the history and these vault records behind them, and this is
-- the payload of the entry's record, where it has a spelling.
pub record Writes (rules : RuleSet) (history : List Entry) (e : Payloads) (entry : Entry) (given : List ℕ) (added : List Record) (payload : List ℕ) (images : Areas → Type 0) : Type 0 where
  pub legal : Legal rules history
  pub line : is_legal (after rules history) entry ≡ true
  pub few : length added ≤ 1
  pub ahead : (c : Areas) → images c → Ahead rules history e added c
  pub one : (c : Areas) → images c → IsEntry entry → IsEntryRecord (after rules history) (vault_for rules history c) entry given (record_of entry payload)
  pub more : (c : Areas) → images c → AreItemRecords (after rules history) (journal_of c) (vault_for rules history c) entry.what added

-- the history and the payloads with the entry
abbrev pub longer : List Entry → Entry → List Entry
longer history entry = history ++ entry ∷ []

abbrev pub next_payloads : RuleSet → List Entry → Payloads → Entry → List ℕ → Payloads
next_payloads rules history e entry given = payloads_after digest (after rules history) entry given e

-- an image that holds this history and these payloads
abbrev pub Rests : RuleSet → List Entry → Payloads → Areas → Type 0
Rests rules history e c = Rest rules history c × Hold rules history e (journal_of c) (vault_of c)

-- zeros stand in this payload, and every other one is as it was
abbrev pub IsScrubbed : Carrier → Areas → Areas → Type 0
IsScrubbed carrier old now = IsZeroed carrier old now × KeepsOthers carrier old now

-- an image that has the vault record of an item behind the records that these areas have
abbrev pub HasItem : RuleSet → List Entry → Payloads → Record → Areas → Areas → Type 0
HasItem rules history e added old c =
    Ahead rules history e (added ∷ []) c × (journal_of c ≡ journal_of old) × (vault_for rules history c ≡ vault_of old)

-- the journal record that an entry leaves without a needed payload
abbrev pub dead_carriers : Option ℕ → List Carrier
dead_carriers None = []
dead_carriers (Some i) = Journal i ∷ []
