-- A ledger: rules and history, with what its calls answer of them.
use Rattle.std.specs.Prelude.{◌≡◌, ◌≤◌, ◌+◌, ℕ, Bool, true, cond, ◌&&◌, nat_lt, List, [], ◌∷◌, ◌++◌, Option, Some, None, length, slice_get, is_none}
use Rattle.job_table.specs.Table.{item_at}
pub use Rattle.payload_laws.specs.Holders.{record_size}
use Rattle.delf_model.specs.declared.rows.Item.{Item}
use Rattle.delf_model.specs.declared.call.Call.{Call}
use Rattle.delf_model.specs.declared.call.Call.TheVariants as call
use Rattle.delf_model.specs.declared.entry.Entry.{Entry}
use Rattle.delf_model.specs.declared.entry.What.{What}
use Rattle.delf_model.specs.declared.entry.What.TheVariants.{Create, Update, Link, Unlink, Delete, Restore, Expire, Cut, Erase, Put, Purge}
use Rattle.delf_model.specs.declared.rows.EdgeKey.{EdgeKey}
use Rattle.delf_model.specs.declared.rows.ObjectRow.{ObjectRow}
use Rattle.delf_model.specs.RuleSet.{RuleSet}
use Rattle.delf_model.specs.Graph.{Change, Same, PutsObject, TakesObject, RewritesObject, PutsEdge, TakesEdge, object_at}
use Rattle.delf_model.specs.State.{State, owner, position_of}
use Rattle.delf_model.specs.Step.{after, put_change}
use Rattle.delf_model.specs.Owners.{key_of}
use Rattle.delf_model.specs.Puts.{judged}

-- a book without its disk: rules and history, the stored graph, the steps that are held, and how many further entries
-- and held steps need no memory but for what they put into the graph
pub record Ledgered (G : Type 0) : Type 0 where
  pub rules : RuleSet
  pub history : List Entry
  pub store : G
  pub held : List What
  pub spare : ℕ

-- the state after the history
abbrev pub state_of : {G : Type 0} → Ledgered G → State
state_of l = after l.rules l.history

-- whether the graph has room for what a change puts, by the ids and the keys for which room was made
abbrev pub has_room_for : (ℕ → Bool) → (EdgeKey → Bool) → Change → Bool
has_room_for objects edges Same = true
has_room_for objects edges (PutsObject row) = objects row.id
has_room_for objects edges (TakesObject id) = true
has_room_for objects edges (RewritesObject id at size) = true
has_room_for objects edges (PutsEdge row) = edges row.key
has_room_for objects edges (TakesEdge key) = true

-- whether the graph has room for what an entry puts: a new object or edge, or the row of an item
abbrev pub has_room : (ℕ → Bool) → (EdgeKey → Bool) → State → What → Bool
has_room objects edges s (Create tag kind id size) = objects id
has_room objects edges s (Update tag id size) = true
has_room objects edges s (Link tag edge from to size) = edges (key_of edge from to)
has_room objects edges s (Unlink tag edge from to name) = true
has_room objects edges s (Delete tag id name) = true
has_room objects edges s (Restore tag job) = true
has_room objects edges s (Expire id) = true
has_room objects edges s (Cut job edge from to) = true
has_room objects edges s (Erase job id) = true
has_room objects edges s (Put job i) = has_room_for objects edges (put_change s (slice_get s.items i))
has_room objects edges s (Purge job) = true

-- whether an entry of this kind needs no memory
abbrev pub is_ready : {G : Type 0} → (ℕ → Bool) → (EdgeKey → Bool) → Ledgered G → What → Bool
is_ready objects edges l what = nat_lt 0 l.spare && has_room objects edges (state_of l) what

-- an object with its owner
abbrev pub found_row : State → ℕ → Option ObjectRow → Option (ObjectRow × Option ℕ)
found_row s id None = None
found_row s id (Some row) = Some (row, owner s id)

abbrev pub found : State → ℕ → Option (ObjectRow × Option ℕ)
found s id = found_row s id (object_at s.graph id)

-- rules, history and held steps are as they were, and no less needs no memory
pub record IsSame {G : Type 0} (old now : Ledgered G) : Type 0 where
  pub rules : now.rules ≡ old.rules
  pub history : now.history ≡ old.history
  pub held : now.held ≡ old.held
  pub spare : old.spare ≤ now.spare

-- the history has this entry more, and takes the room of one
pub record HasEntered {G : Type 0} (old now : Ledgered G) (entry : Entry) : Type 0 where
  pub rules : now.rules ≡ old.rules
  pub history : now.history ≡ old.history ++ entry ∷ []
  pub held : now.held ≡ old.held
  pub spare : old.spare ≤ now.spare + 1

-- whether the rules have the type that a call creates an object of, or the edge type that it links by
abbrev pub is_numbered_call : RuleSet → Call → Bool
is_numbered_call rules (call.Create kind id payload) = nat_lt kind (length rules.objects)
is_numbered_call rules (call.Update id payload) = true
is_numbered_call rules (call.Link edge from to payload) = nat_lt edge (length rules.edges)
is_numbered_call rules (call.Unlink edge from to name) = true
is_numbered_call rules (call.Delete id name) = true
is_numbered_call rules (call.Restore name) = true

-- the position of the payload that an entry puts back: a put whose row comes back, that of its item
abbrev pub position_of_put : State → Option Item → Option ℕ
position_of_put s None = None
position_of_put s (Some it) = cond (is_none (judged s it)) (Some (position_of it)) None

abbrev pub position_back : State → What → Option ℕ
position_back s (Create tag kind id size) = None
position_back s (Update tag id size) = None
position_back s (Link tag edge from to size) = None
position_back s (Unlink tag edge from to name) = None
position_back s (Delete tag id name) = None
position_back s (Restore tag job) = None
position_back s (Expire id) = None
position_back s (Cut job edge from to) = None
position_back s (Erase job id) = None
position_back s (Put job i) = position_of_put s (item_at s i)
position_back s (Purge job) = None
