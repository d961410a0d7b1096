-- What a book keeps of its logs and its disk.
use Rattle.std.specs.Prelude.{◌≡◌, ℕ, zero, suc, ◌+◌, ◌≤◌, Bool, true, false, cond, List, [], ◌∷◌, ◌++◌, Option, Some, None, length, map, slice_get}
use Rattle.delf_disk.specs.declared.area.Area.TheVariants as area
use Rattle.delf_disk.specs.Areas.{Areas}
use Rattle.delf_disk.specs.Causes.{Rose}
use Rattle.delf_disk.specs.Plain.{Plain, SameTelling}
use Rattle.gate_log.specs.Records.{Record}
use Rattle.gate_log.specs.View.{LogView}
use Rattle.entry_codec.specs.EntryHead.{entry_head}
use Rattle.entry_codec.specs.ItemHead.{item_fields}
use Rattle.entry_codec.specs.Field.{spelled}
use Rattle.delf_model.specs.declared.entry.Entry.{Entry}
use Rattle.delf_model.specs.declared.entry.What.{What}
use Rattle.delf_model.specs.declared.entry.What.TheVariants.{Create, Update, Link, Unlink, Delete, Restore, Expire, Cut, Erase, Put, Purge}
use Rattle.delf_model.specs.RuleSet.{RuleSet}
use Rattle.delf_model.specs.State.{State, Logged, start, size_of}
use Rattle.delf_model.specs.Step.{step, after}
use Rattle.delf_model.specs.Puts.{judged}
use Rattle.delf_model.specs.Payloads.{Payloads, is_needed, last_carrier, Journal}
use Rattle.payload_laws.specs.Holders.{record_size}
use Rattle.store_laws.specs.Stores.{Clean, AreSealed, payload_in, seals_of, journal_of, vault_of}
use Rattle.store_laws.specs.Moves.{RestIn}
use Rattle.delf_book.specs.Parts.{Interrupted}
use Rattle.delf_book.specs.Holding.{StandsBeside, StandWhole}

-- the lengths of the heads and payloads of the journal records of a history
abbrev pub journal_sizes : State → List Entry → List (ℕ × ℕ)
journal_sizes s [] = []
journal_sizes s (e ∷ es) = (length (entry_head e), record_size s e.what) ∷ journal_sizes (step s e) es

-- of the vault record of an item, whose head ends with a digest of 32 bytes
abbrev pub item_sizes : Logged → ℕ × ℕ
item_sizes logged = (length (spelled (item_fields logged.item)) + 32, size_of logged.item)

-- the logs are those of the history, whatever the disk tells
pub record KeepsLogs (rules : RuleSet) (history : List Entry) (journal vault : LogView) : Type 0 where
  pub journal_area : journal.area ≡ area.Journal
  pub vault_area : vault.area ≡ area.Vault
  pub journal_is : journal.sizes ≡ journal_sizes (start rules) history
  pub vault_is : vault.sizes ≡ map item_sizes (after rules history).items

-- so many further entries need no memory, but for what they put into the graph
pub record HasRoom (n ledger : ℕ) (journal vault : LogView) (carriers capacity : ℕ) : Type 0 where
  pub in_ledger : n ≤ ledger
  pub in_journal : n ≤ journal.spare
  pub in_vault : n ≤ vault.spare
  pub in_carriers : carriers + n ≤ capacity

-- by position, the journal record that carries the payload of a row of the graph
pub record KeepsCarriers (rules : RuleSet) (history : List Entry) (carriers : List ℕ) : Type 0 where
  pub many : length carriers ≡ length history
  pub carried : (p q : ℕ) → is_needed (after rules history) p ≡ true → last_carrier (after rules history) p ≡ Journal q
      → slice_get carriers p ≡ Some q

-- at the positions below a number that a test takes, by rising position, the bytes that a function gives

abbrev pub pair_if : Bool → ℕ → List ℕ → List (ℕ × List ℕ)
pair_if taken p bytes = cond taken ((p, bytes) ∷ []) []

abbrev pub pairs_below : (ℕ → Bool) → (ℕ → List ℕ) → ℕ → List (ℕ × List ℕ)
pairs_below taken bytes zero = []
pairs_below taken bytes (suc n) = pairs_below taken bytes n ++ pair_if (taken n) n (bytes n)

-- the payload that the records of a state hold at a position
abbrev pub held_at : State → List Record → List Record → ℕ → List ℕ
held_at s journal vault p = payload_in journal vault (last_carrier s p)

-- the payloads that areas hold for a state
unfoldable pub payloads_in : State → Areas → Payloads
payloads_in s areas = record {
  bytes = pairs_below (is_needed s) (held_at s (journal_of areas) (vault_of areas)) s.len;
  seals = seals_of (vault_of areas);
}

-- each image rests and holds what reads, and no payload reads that is not needed
pub record KeepsAreas (rules : RuleSet) (history : List Entry) (seen : Areas) (may_leave : Areas → Type 0) : Type 0 where
  pub rests : RestIn rules history (payloads_in (after rules history) seen) may_leave
  pub clean : Clean rules history seen

-- a put that puts its row back
abbrev pub PutsBack : State → What → Type 0
PutsBack s what = (job i : ℕ) × ((logged : Logged) × ((what ≡ Put job i) × (slice_get s.items i ≡ Some logged) × (judged s logged.item ≡ None)))

-- all of it, of a book that is up
pub record KeepsUp (rules : RuleSet) (history : List Entry) (spare ledger : ℕ) (journal vault : LogView) (carriers : List ℕ) (capacity : ℕ) (told honest : Bool) (seen : Areas) (may_leave : Areas → Type 0) : Type 0 where
  pub logs : KeepsLogs rules history journal vault
  pub carried : KeepsCarriers rules history carriers
  pub room : HasRoom spare ledger journal vault (length carriers) capacity
  pub areas : Plain told honest → KeepsAreas rules history seen may_leave

-- of a book that is down: each image stands for the history, or for it with what is beside it
abbrev pub KeepsDown : RuleSet → List Entry → Payloads → Option Interrupted → (Areas → Type 0) → Type 0
KeepsDown rules history e beside images = (c : Areas) → images c → StandsBeside rules history e beside c

-- while a book is up, its payloads are those that read; and where the areas stood whole at the opening, they are what was sealed
pub record KeepsPayloads (rules : RuleSet) (history : List Entry) (e : Payloads) (down : Bool) (seen opened : Areas) : Type 0 where
  pub reads : down ≡ false → e ≡ payloads_in (after rules history) seen
  pub sealed : StandWhole rules opened → AreSealed rules history e

-- the disk is of the kind that it was at the opening, and its count of faults never fell, and rose where the book is down
pub record KeepsOpening {R : Type 0} (told honest : R → Bool) (faults : R → ℕ) (down : Bool) (opened now : R) : Type 0 where
  pub telling : SameTelling told honest opened now
  pub later : faults opened ≤ faults now
  pub rose : down ≡ true → Rose (faults opened) (faults now)

-- an entry that scrubs at most the payload of the row that it takes or rewrites
abbrev pub scrubs_rows : What → Bool
scrubs_rows (Create tag kind id size) = true
scrubs_rows (Update tag id size) = true
scrubs_rows (Link tag edge from to size) = true
scrubs_rows (Unlink tag edge from to name) = true
scrubs_rows (Delete tag id name) = true
scrubs_rows (Restore tag job) = true
scrubs_rows (Expire id) = true
scrubs_rows (Cut job edge from to) = true
scrubs_rows (Erase job id) = true
scrubs_rows (Put job i) = false
scrubs_rows (Purge job) = false
