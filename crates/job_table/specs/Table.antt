-- What a table is, and of which states it is the table.
use Rattle.std.specs.Prelude.{◌≡◌, ℕ, suc, ◌≤◌, max, Bool, true, cond, ◌&&◌, not, nat_eq, nat_lt, List, [], ◌∷◌, Option, find, map, count_by, slice_get, option_map, option_and_then, IsTrue}
use Rattle.delf_model.specs.declared.rows.ObjectRow.{ObjectRow}
use Rattle.delf_model.specs.declared.rows.Item.{Item}
use Rattle.delf_model.specs.declared.entry.Entry.{Entry}
use Rattle.delf_model.specs.declared.entry.What.{What}
use Rattle.delf_model.specs.RuleSet.{RuleSet, is_refcount}
use Rattle.delf_model.specs.Graph.{Graph}
use Rattle.delf_model.specs.State.{State, Logged, JobRow, owner, owned, job_row, is_restored}
use Rattle.delf_model.specs.Room.{owed, room, room_limit}
use Rattle.delf_model.specs.Legal.{is_legal}
use Rattle.delf_model.specs.Order.{erases_same}

-- what a table holds: the state after a history without its graph, the steps that are held, and how many further
-- entries and held steps need no memory
pub record Table : Type 0 where
  pub len : ℕ
  pub moment : ℕ
  pub owed : ℕ
  pub owners : List (ℕ × ℕ)
  pub items : List Logged
  pub jobs : List JobRow
  pub seats : List ℕ
  pub held : List What
  pub spare : ℕ

-- the owned ids, each with its job

abbrev pub is_of_id : ℕ → ℕ × ℕ → Bool
is_of_id id pair = nat_eq pair.0 id

abbrev pub job_of_pair : ℕ × ℕ → ℕ
job_of_pair pair = pair.1

abbrev pub owner_among : List (ℕ × ℕ) → ℕ → Option ℕ
owner_among pairs id = option_map job_of_pair (find (is_of_id id) pairs)

abbrev pub is_of_owner : ℕ → ℕ × ℕ → Bool
is_of_owner job pair = nat_eq pair.1 job

abbrev pub owned_among : List (ℕ × ℕ) → ℕ → ℕ
owned_among pairs job = count_by (is_of_owner job) pairs

-- what holds of the state after every legal history

-- starts rise from this number on, below the length
abbrev pub starts_rise : ℕ → ℕ → List JobRow → Bool
starts_rise low len [] = true
starts_rise low len (row ∷ rows) = not (nat_lt row.start low) && nat_lt row.start len && starts_rise (suc row.start) len rows

abbrev pub id_of_owner : ℕ × Option ℕ → ℕ
id_of_owner pair = pair.0

abbrev pub id_of : ObjectRow → ℕ
id_of row = row.id

pub record Keeps (s : State) : Type 0 where
  pub within : room s ≤ room_limit
  pub starts : IsTrue (starts_rise 0 s.len s.jobs)
  pub idle : (job : ℕ) → is_restored s.jobs job ≡ true → owned s job ≡ 0
  pub ids : map id_of_owner s.owners ≡ map id_of s.graph.objects

-- the table is this state without its graph; owners and counts of owned objects are told by id and by job
pub record IsTableOf (s : State) (t : Table) : Type 0 where
  pub len : t.len ≡ s.len
  pub moment : t.moment ≡ s.moment
  pub owed : t.owed ≡ owed s
  pub owners : (id : ℕ) → owner_among t.owners id ≡ owner s id
  pub owned : (job : ℕ) → owned_among t.owners job ≡ owned s job
  pub items : t.items ≡ s.items
  pub jobs : t.jobs ≡ s.jobs
  pub seats : t.seats ≡ s.seats
  pub keeps : Keeps s

-- graph and rules are those of the state, and the graph counts edges of its refcount types
pub record IsGraphOf (s : State) (stored : Graph) (refs : ℕ → Bool) (ruled : RuleSet) : Type 0 where
  pub graph : stored ≡ s.graph
  pub rules : ruled ≡ s.rules
  pub counts : (edge : ℕ) → refs edge ≡ is_refcount s.rules edge

-- the entry is legal in a state that table, graph and rules stand for
abbrev pub MayApply : Table → Graph → (ℕ → Bool) → RuleSet → Entry → Type 0
MayApply t g counts rules entry =
    (s : State) × IsTableOf s t × IsGraphOf s g counts rules × (is_legal s entry ≡ true)

-- readings that no other definition names

abbrev pub item_of_logged : Logged → Item
item_of_logged logged = logged.item

-- the item with this number
abbrev pub item_at : State → ℕ → Option Item
item_at s i = option_map item_of_logged (slice_get s.items i)

abbrev pub restored_of_row : JobRow → Option ℕ
restored_of_row row = row.restored

-- the position of the job's Restore
abbrev pub restored_of : State → ℕ → Option ℕ
restored_of s job = option_and_then restored_of_row (job_row s.jobs job)

abbrev pub last_of_row : JobRow → Option ℕ
last_of_row row = row.last

-- the moment of the job's last erasure
abbrev pub last_erasure : State → ℕ → Option ℕ
last_erasure s job = option_and_then last_of_row (job_row s.jobs job)

abbrev pub greatest : List ℕ → ℕ
greatest [] = 0
greatest (x ∷ xs) = max x (greatest xs)

-- the greatest seat of a tag, 0 where there is none
abbrev pub top_seat : State → ℕ
top_seat s = greatest s.seats

-- held steps

abbrev pub is_erasing : What → Bool
is_erasing what = erases_same what what

-- the held steps without the first that erases the same row
abbrev pub given_up : What → List What → List What
given_up step [] = []
given_up step (x ∷ xs) = cond (erases_same step x) xs (x ∷ given_up step xs)
