-- What a step does over the parts of a book.
use Rattle.std.specs.Prelude.{◌≡◌, ◌≢◌, ℕ, ◌≤◌, true, List, Some, Result, Ok, Err, slice_get}
use Rattle.delf_disk.specs.Causes.{Rose}
use Rattle.delf_model.specs.declared.entry.What.{What}
use Rattle.delf_model.specs.declared.entry.What.TheVariants.{Put}
use Rattle.delf_model.specs.State.{State, Logged, position_of, size_of}
use Rattle.delf_model.specs.Payloads.{Payloads, Vault, is_needed, last_carrier, payload_at}
use Rattle.store_laws.specs.Stores.{digest}
use Rattle.vault.specs.declared.fault.FetchFault.{FetchFault}
use Rattle.vault.specs.declared.fault.FetchFault.TheVariants.{Failed, Damaged}
use Rattle.delf_book.specs.Steps.{PutsItem, TellsDamage}
use Rattle.delf_book.specs.declared.stepping.Halt.{Halt}
use Rattle.delf_book.specs.declared.stepping.Halt.TheVariants as halt

-- an item whose needed payload stands in its own vault record
pub record Waits (s : State) (i : ℕ) : Type 0 where
  pub logged : Logged
  pub there : slice_get s.items i ≡ Some logged
  pub needed : is_needed s (position_of logged.item) ≡ true
  pub carried : last_carrier s (position_of logged.item) ≡ Vault i

-- a put of this item
abbrev pub IsPutOf : What → ℕ → Type 0
IsPutOf what i = (job : ℕ) × (what ≡ Put job i)

-- the entry puts this item back
abbrev pub PutsBackItem : State → What → ℕ → Type 0
PutsBackItem s what i = (logged : Logged) × PutsItem s what i logged

-- the payload of the item has this size
abbrev pub IsSizeOf : State → ℕ → ℕ → Type 0
IsSizeOf s i n = (logged : Logged) → slice_get s.items i ≡ Some logged → n ≡ size_of logged.item

-- these bytes are the payload of the item
abbrev pub IsPayloadOf : State → ℕ → Payloads → List ℕ → Type 0
IsPayloadOf s i e bytes = (logged : Logged) → slice_get s.items i ≡ Some logged → bytes ≡ payload_at e (position_of logged.item)

-- the payload of the item has the digest that was logged with it
abbrev pub IsSealed : State → ℕ → Payloads → Type 0
IsSealed s i e = (logged : Logged) → slice_get s.items i ≡ Some logged → slice_get e.seals i ≡ Some (digest (payload_at e (position_of logged.item)))

-- what is damaged is this item, and two digests differ
abbrev pub Differ : ℕ → FetchFault → Type 0
Differ i Failed = Unit {0}
Differ i (Damaged item stored found) = (item ≡ i) × (stored ≢ found)

-- they are that of the log and that of the payload that stood
abbrev pub TellsWhy : State → Payloads → FetchFault → Type 0
TellsWhy s e Failed = Unit {0}
TellsWhy s e (Damaged item stored found) = TellsDamage s e item stored found

-- the entry would put back an item whose two digests differ
abbrev pub RefusesPut : State → What → FetchFault → Type 0
RefusesPut s what Failed = Unit {0}
RefusesPut s what (Damaged item stored found) = PutsBackItem s what item × (stored ≢ found)

-- where the item is damaged
abbrev pub IfDamaged : {T : Type 0} → Result T FetchFault → Type 0 → Type 0
IfDamaged (Ok x) P = Unit {0}
IfDamaged (Err Failed) P = Unit {0}
IfDamaged (Err (Damaged item stored found)) P = P

-- the count of faults stays, but where the disk failed, where it rises
abbrev pub CountsPut : {T : Type 0} → ℕ → ℕ → Result T FetchFault → Type 0
CountsPut before now (Ok x) = now ≡ before
CountsPut before now (Err Failed) = (before ≤ now) × Rose before now
CountsPut before now (Err (Damaged item stored found)) = now ≡ before

-- why a step was not made

abbrev pub halt_of : FetchFault → Halt
halt_of Failed = halt.Failed
halt_of (Damaged item stored found) = halt.Damaged item stored found

-- where memory was wanting
abbrev pub IfStarved : {T : Type 0} → Result T Halt → Type 0 → Type 0
IfStarved (Ok x) P = Unit {0}
IfStarved (Err halt.OutOfMemory) P = P
IfStarved (Err halt.Failed) P = Unit {0}
IfStarved (Err (halt.Damaged item stored found)) P = Unit {0}

-- where an item is damaged
abbrev pub IfHurt : {T : Type 0} → Result T Halt → (ℕ → List ℕ → List ℕ → Type 0) → Type 0
IfHurt (Ok x) P = Unit {0}
IfHurt (Err halt.OutOfMemory) P = Unit {0}
IfHurt (Err halt.Failed) P = Unit {0}
IfHurt (Err (halt.Damaged item stored found)) P = P item stored found

-- where the step was not made, and no disk call failed
abbrev pub IfWaits : {T : Type 0} → Result T Halt → Type 0 → Type 0
IfWaits (Ok x) P = Unit {0}
IfWaits (Err halt.OutOfMemory) P = P
IfWaits (Err halt.Failed) P = Unit {0}
IfWaits (Err (halt.Damaged item stored found)) P = P

-- the count of faults stays, but where the disk failed, where it rises
abbrev pub CountsHalt : {T : Type 0} → ℕ → ℕ → Result T Halt → Type 0
CountsHalt before now (Ok x) = now ≡ before
CountsHalt before now (Err halt.OutOfMemory) = now ≡ before
CountsHalt before now (Err halt.Failed) = (before ≤ now) × Rose before now
CountsHalt before now (Err (halt.Damaged item stored found)) = now ≡ before
