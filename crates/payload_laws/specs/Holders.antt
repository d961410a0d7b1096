-- Who holds a payload, and how one entry moves it from one record to another.
use Rattle.std.specs.Prelude.{◌≡◌, ◌≢◌, ◌⊎◌, ℕ, ◌+◌, ◌<◌, Bool, true, false, cond, ◌&&◌, nat_eq, not, List, [], ◌∷◌, Option, Some, None, length, slice_get, take, is_none, Contains}
use Rattle.delf_model.specs.declared.rows.ObjectRow.{ObjectRow}
use Rattle.delf_model.specs.declared.rows.EdgeKey.{EdgeKey}
use Rattle.delf_model.specs.declared.rows.EdgeRow.{EdgeRow}
use Rattle.delf_model.specs.declared.entry.Entry.{Entry}
use Rattle.delf_model.specs.declared.entry.What.{What}
use Rattle.delf_model.specs.declared.entry.What.TheVariants.{Create, Update, Link, Unlink, Delete, Restore, Expire, Cut, Erase, Put, Purge}
use Rattle.delf_model.specs.RuleSet.{RuleSet}
use Rattle.delf_model.specs.Graph.{object_at, edge_at}
use Rattle.delf_model.specs.State.{State, Logged, job_of, position_of, size_of}
use Rattle.delf_model.specs.Step.{after, step}
use Rattle.delf_model.specs.Puts.{judged}
use Rattle.delf_model.specs.Owners.{key_of}
use Rattle.delf_model.specs.Legal.{is_legal}
use Rattle.delf_model.specs.Report.{was_put}
use Rattle.delf_model.specs.Payloads.{Payloads, is_needed, last_carrier, Carrier, Journal, Vault, position_of_object, position_of_edge, payload_at}

-- a record whose payload range has to stay: the last carrier of a needed position
abbrev pub IsLive : State → Carrier → Type 0
IsLive s carrier = (p : ℕ) × (is_needed s p ≡ true) × (last_carrier s p ≡ carrier)

-- the size of the payload in the record of an entry: what a call gives, or what a put puts back

abbrev pub put_size : State → Option Logged → ℕ
put_size s None = 0
put_size s (Some logged) = cond (is_none (judged s logged.item)) (size_of logged.item) 0

abbrev pub record_size : State → What → ℕ
record_size s (Create tag kind id size) = size
record_size s (Update tag id size) = size
record_size s (Link tag edge from to size) = size
record_size s (Unlink tag edge from to name) = 0
record_size s (Delete tag id name) = 0
record_size s (Restore tag job) = 0
record_size s (Expire id) = 0
record_size s (Cut job edge from to) = 0
record_size s (Erase job id) = 0
record_size s (Put job i) = put_size s (slice_get s.items i)
record_size s (Purge job) = 0

-- the records that an entry leaves without a needed payload, in the order in which they are scrubbed

abbrev pub carrier_of_object : State → Option ObjectRow → List Carrier
carrier_of_object s None = []
carrier_of_object s (Some row) = last_carrier s row.at ∷ []

abbrev pub carrier_of_edge : State → Option EdgeRow → List Carrier
carrier_of_edge s None = []
carrier_of_edge s (Some row) = last_carrier s row.birth ∷ []

abbrev pub carrier_of_put : State → ℕ → Option Logged → List Carrier
carrier_of_put s i None = []
carrier_of_put s i (Some logged) = cond (is_none (judged s logged.item)) (Vault i ∷ []) []

-- the items of a job that were not put back, from this number on
abbrev pub unput_of : ℕ → ℕ → List Logged → List Carrier
unput_of job i [] = []
unput_of job i (x ∷ xs) = cond (nat_eq (job_of x.item) job && not (was_put x.handled)) (Vault i ∷ unput_of job (i + 1) xs) (unput_of job (i + 1) xs)

abbrev pub scrubbed_by : State → What → List Carrier
scrubbed_by s (Create tag kind id size) = []
scrubbed_by s (Update tag id size) = carrier_of_object s (object_at s.graph id)
scrubbed_by s (Link tag edge from to size) = []
scrubbed_by s (Unlink tag edge from to name) = carrier_of_edge s (edge_at s.graph (key_of edge from to))
scrubbed_by s (Delete tag id name) = []
scrubbed_by s (Restore tag job) = []
scrubbed_by s (Expire id) = []
scrubbed_by s (Cut job edge from to) = carrier_of_edge s (edge_at s.graph (key_of edge from to))
scrubbed_by s (Erase job id) = carrier_of_object s (object_at s.graph id)
scrubbed_by s (Put job i) = carrier_of_put s i (slice_get s.items i)
scrubbed_by s (Purge job) = unput_of job 0 s.items

-- the position of the row that a cut or an erasure takes
abbrev pub position_taken : State → What → Option ℕ
position_taken s (Cut job edge from to) = Some (position_of_edge (edge_at s.graph (key_of edge from to)))
position_taken s (Erase job id) = Some (position_of_object (object_at s.graph id))
position_taken s what = None

-- whether an entry brings a payload of its own
abbrev pub brings : What → Bool
brings (Create tag kind id size) = true
brings (Update tag id size) = true
brings (Link tag edge from to size) = true
brings what = false

-- how a needed position comes to its carrier by one entry more: it was needed before and stays where it was; the entry
-- brings it; the entry logs its row; or the entry puts it back from the record of its item
pub data Carried (s : State) (e : Entry) (p : ℕ) : Type 0 where
  Stays : is_needed s p ≡ true → last_carrier (step s e) p ≡ last_carrier s p → Carried s e p
  Brought : p ≡ s.len → brings e.what ≡ true → last_carrier (step s e) p ≡ Journal s.len → Carried s e p
  Taken : position_taken s e.what ≡ Some p → is_needed s p ≡ true → last_carrier (step s e) p ≡ Vault (length s.items) → Carried s e p
  PutBack : (job i : ℕ) → (logged : Logged) → e.what ≡ Put job i → slice_get s.items i ≡ Some logged → judged s logged.item ≡ None →
      p ≡ position_of logged.item → is_needed s p ≡ true → last_carrier s p ≡ Vault i → last_carrier (step s e) p ≡ Journal s.len → Carried s e p

-- how one legal entry moves payloads
pub record PayloadsMove (s : State) (e : Entry) : Type 0 where
  pub carried : (p : ℕ) → is_needed (step s e) p ≡ true → Carried s e p
  -- what is scrubbed was needed and is needed no more, and what is needed no more is scrubbed
  pub was_live : (carrier : Carrier) → Contains (scrubbed_by s e.what) carrier → IsLive s carrier
  pub dead : (carrier : Carrier) → Contains (scrubbed_by s e.what) carrier → IsLive (step s e) carrier → ⊥
  pub all : (carrier : Carrier) → IsLive s carrier → IsLive (step s e) carrier ⊎ Contains (scrubbed_by s e.what) carrier

-- where each needed position is carried, in the state after a legal history
pub record PositionsHeld (s : State) : Type 0 where
  -- positions are below the length
  pub below : (p : ℕ) → is_needed s p ≡ true → p < s.len
  -- a row of the graph is carried by a journal record
  pub objects : (id : ℕ) (row : ObjectRow) → object_at s.graph id ≡ Some row → (q : ℕ) × (q < s.len) × (last_carrier s row.at ≡ Journal q)
  pub edges : (key : EdgeKey) (row : EdgeRow) → edge_at s.graph key ≡ Some row → (q : ℕ) × (q < s.len) × (last_carrier s row.birth ≡ Journal q)
  -- an item that was not put back is carried by its own vault record
  pub items : (i : ℕ) (logged : Logged) → slice_get s.items i ≡ Some logged → was_put logged.handled ≡ false →
      last_carrier s (position_of logged.item) ≡ Vault i
  -- two rows of the graph hold two positions
  pub apart : (a b : ℕ) (x y : ObjectRow) → object_at s.graph a ≡ Some x → object_at s.graph b ≡ Some y → x.at ≡ y.at → a ≡ b
  pub edges_apart : (a b : EdgeKey) (x y : EdgeRow) → edge_at s.graph a ≡ Some x → edge_at s.graph b ≡ Some y → x.birth ≡ y.birth → a ≡ b
  pub kinds_apart : (id : ℕ) (key : EdgeKey) (x : ObjectRow) (y : EdgeRow) → object_at s.graph id ≡ Some x → edge_at s.graph key ≡ Some y → x.at ≡ y.birth → ⊥

-- the record at this place has a payload of this size
abbrev pub HasSize : RuleSet → List Entry → ℕ → ℕ → Type 0
HasSize rules history q size = (e : Entry) → slice_get history q ≡ Some e → record_size (after rules (take q history)) e.what ≡ size

-- over every legal history
pub record PayloadsAreHeld (rules : RuleSet) (history : List Entry) : Type 0 where
  pub held : PositionsHeld (after rules history)
  -- the record that carries a row's payload has one of the row's size
  pub object_sizes : (id : ℕ) (row : ObjectRow) (q : ℕ) → object_at (after rules history).graph id ≡ Some row →
      last_carrier (after rules history) row.at ≡ Journal q → HasSize rules history q row.size
  pub edge_sizes : (key : EdgeKey) (row : EdgeRow) (q : ℕ) → edge_at (after rules history).graph key ≡ Some row →
      last_carrier (after rules history) row.birth ≡ Journal q → HasSize rules history q row.size
  pub moves : (e : Entry) → is_legal (after rules history) e ≡ true → PayloadsMove (after rules history) e

-- the seal of an item is not the digest of its payload
abbrev pub SealDiffers : (List ℕ → List ℕ) → Payloads → ℕ → Logged → Type 0
SealDiffers digest e i logged = slice_get e.seals i ≢ Some (digest (payload_at e (position_of logged.item)))
