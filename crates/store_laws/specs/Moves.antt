-- What the records of one entry are, and what a book makes of both areas.
use Rattle.std.specs.Prelude.{◌≡◌, ◌⊎◌, ℕ, true, List, [], ◌∷◌, ◌++◌, Some, None, length, map, slice_get, drop}
use Rattle.delf_disk.specs.Areas.{Areas}
use Rattle.gate_log.specs.Records.{Record, payload_of}
use Rattle.entry_codec.specs.EntryHead.{entry_head, IsEntry}
use Rattle.delf_model.specs.declared.entry.Entry.{Entry}
use Rattle.delf_model.specs.declared.entry.What.{What}
use Rattle.delf_model.specs.declared.entry.What.TheVariants.{Put}
use Rattle.delf_model.specs.RuleSet.{RuleSet}
use Rattle.delf_model.specs.State.{State, Logged}
use Rattle.delf_model.specs.Step.{after, items_after}
use Rattle.delf_model.specs.Puts.{judged}
use Rattle.delf_model.specs.Payloads.{Payloads, payloads_after, last_carrier}
use Rattle.payload_laws.specs.Holders.{record_size, brings, position_taken}
use Rattle.store_laws.specs.Stores.{digest, payload_in, length_in, head_in, logged_size, item_heads, seals_of, StandBut, Rest, Hold, journal_of, vault_of}

-- the journal record of an entry that was given these bytes, over the records that stand there
pub record IsEntryRecord (s : State) (vault : List Record) (entry : Entry) (given : List ℕ) (r : Record) : Type 0 where
  pub entry_spelled : IsEntry entry
  pub head : r.head ≡ entry_head entry
  pub size : length r.payload ≡ record_size s entry.what
  pub brought : brings entry.what ≡ true → r.payload ≡ given
  -- a put brings back the payload of its item
  pub put : (job i : ℕ) (logged : Logged) → entry.what ≡ Put job i → slice_get s.items i ≡ Some logged → judged s logged.item ≡ None →
      r.payload ≡ payload_of vault i

-- the items that an entry logs
abbrev pub new_items : State → What → List Logged
new_items s what = drop (length s.items) (items_after s what)

-- the vault records of an entry: one for the row that it takes, with its payload and the digest of that, else none
pub record AreItemRecords (s : State) (journal vault : List Record) (what : What) (added : List Record) : Type 0 where
  pub heads : map head_in added ≡ item_heads (new_items s what) (seals_of added)
  pub sizes : map length_in added ≡ map logged_size (new_items s what)
  pub payload : (p : ℕ) → position_taken s what ≡ Some p → payload_of added 0 ≡ payload_in journal vault (last_carrier s p)
  pub seals : (p : ℕ) → position_taken s what ≡ Some p → seals_of added ≡ digest (payload_in journal vault (last_carrier s p)) ∷ []

-- every image of a disk holds this history and these payloads, with one vault record an item
abbrev pub RestIn : RuleSet → List Entry → Payloads → (Areas → Type 0) → Type 0
RestIn rules history e images =
    (c : Areas) → images c → Rest rules history c × Hold rules history e (journal_of c) (vault_of c)

-- what a crash may leave of a call that adds this entry: the history and its payloads from before it, or those after it
abbrev pub StandsFor : RuleSet → List Entry → Payloads → Entry → List ℕ → Areas → Type 0
StandsFor rules history e entry given areas =
    StandBut rules history e areas ⊎ StandBut rules (history ++ entry ∷ []) (payloads_after digest (after rules history) entry given e) areas
