-- What a history has come to: rules, graph, owners, items and jobs, with the look-ups in them.
use Rattle.std.specs.Prelude.{ℕ, ◌&&◌, ◌∷◌, [], if◌then◌else◌, Bool, true, false, nat_eq, List, Option, Some, None, find, count_by, is_some, is_none, option_and_then, unwrap_or}
use Rattle.std.specs.Option.{option_or}
use Rattle.delf_model.specs.declared.rows.Item.{Item}
use Rattle.delf_model.specs.declared.call.Cause.{Cause}
use Rattle.delf_model.specs.declared.ids.JobName.{JobName}
use Rattle.delf_model.specs.declared.rows.Item.TheVariants as item
use Rattle.delf_model.specs.declared.ids.JobName.TheVariants.{Named, Expiry}
use Rattle.delf_model.specs.RuleSet.{RuleSet}
use Rattle.delf_model.specs.Graph.{Graph, empty_graph}

-- how an item was handled: the position of its Put, and the cause where it was listed
pub record Handled : Type 0 where
  pub put : ℕ
  pub cause : Option Cause

-- an item, numbered by its place, with how it was handled
pub record Logged : Type 0 where
  pub item : Item
  pub handled : Option Handled

-- a job: the position of its start, its root and name, the position of its Restore, whether it is purged,
-- the moment of its last erasure
pub record JobRow : Type 0 where
  pub start : ℕ
  pub root : ℕ
  pub name : JobName
  pub restored : Option ℕ
  pub purged : Bool
  pub last : Option ℕ

-- each object of the graph with its owner, by rising id
abbrev pub Owners : Type 0
Owners = List (ℕ × Option ℕ)

-- all that a rule asks for, after a history
pub record State : Type 0 where
  pub rules : RuleSet
  pub len : ℕ
  pub moment : ℕ
  pub graph : Graph
  pub owners : Owners
  pub items : List Logged
  pub jobs : List JobRow
  pub seats : List ℕ

-- before the first entry
abbrev pub start : RuleSet → State
start rules = record {
  rules = rules;
  len = 0;
  moment = 0;
  graph = empty_graph;
  owners = [];
  items = [];
  jobs = [];
  seats = [];
}

-- owners

abbrev pub owns_of : ℕ → ℕ × Option ℕ → Bool
owns_of id pair = nat_eq pair.0 id

abbrev pub owner_of_pair : ℕ × Option ℕ → Option ℕ
owner_of_pair pair = pair.1

abbrev pub owner_in : Owners → ℕ → Option ℕ
owner_in owners id = option_and_then owner_of_pair (find (owns_of id) owners)

-- the job that owns the object
abbrev pub owner : State → ℕ → Option ℕ
owner s id = owner_in s.owners id

abbrev pub is_job : ℕ → Option ℕ → Bool
is_job job None = false
is_job job (Some other) = nat_eq other job

abbrev pub is_owned_by : State → ℕ → ℕ → Bool
is_owned_by s job id = is_job job (owner s id)

abbrev pub is_pair_of : ℕ → ℕ × Option ℕ → Bool
is_pair_of job pair = is_job job pair.1

-- how many objects the job owns
abbrev pub owned : State → ℕ → ℕ
owned s job = count_by (is_pair_of job) s.owners

-- jobs

abbrev pub starts_at : ℕ → JobRow → Bool
starts_at job row = nat_eq row.start job

-- the row of a job
abbrev pub job_row : List JobRow → ℕ → Option JobRow
job_row jobs job = find (starts_at job) jobs

abbrev pub same_name : JobName → JobName → Bool
same_name (Named a) (Named b) = nat_eq a b
same_name (Expiry x) (Expiry y) = nat_eq x y
same_name name other = false

abbrev pub last_of : Option ℕ → Option ℕ → Option ℕ
last_of found later = option_or later found

abbrev pub named_start : JobName → JobRow → Option ℕ
named_start name row = if same_name row.name name then Some row.start else None

-- the job that a name means: the latest one that has it
abbrev pub find_job : List JobRow → JobName → Option ℕ
find_job [] name = None
find_job (row ∷ rows) name = last_of (named_start name row) (find_job rows name)

abbrev pub is_restored_row : Option JobRow → Bool
is_restored_row None = false
is_restored_row (Some row) = is_some row.restored

-- whether the job has a Restore
abbrev pub is_restored : List JobRow → ℕ → Bool
is_restored jobs job = is_restored_row (job_row jobs job)

-- the moment of the job's last erasure, 0 before the first one
abbrev pub last_erasure_or_zero : Option ℕ → ℕ
last_erasure_or_zero last = unwrap_or last 0

-- items

-- the job that took it
abbrev pub job_of : Item → ℕ
job_of (item.Object job row) = job
job_of (item.Edge job row from_birth to_birth) = job

abbrev pub is_object_item : Item → Bool
is_object_item (item.Object job row) = true
is_object_item (item.Edge job row from_birth to_birth) = false

-- the position that gave it its payload
abbrev pub position_of : Item → ℕ
position_of (item.Object job row) = row.at
position_of (item.Edge job row from_birth to_birth) = row.birth

-- the size of its payload
abbrev pub size_of : Item → ℕ
size_of (item.Object job row) = row.size
size_of (item.Edge job row from_birth to_birth) = row.size

-- an unhandled item: one of a restored job, neither put back nor listed yet
abbrev pub is_open : List JobRow → Logged → Bool
is_open jobs logged = is_none logged.handled && is_restored jobs (job_of logged.item)

abbrev pub is_open_of : ℕ → List JobRow → Logged → Bool
is_open_of job jobs logged = nat_eq (job_of logged.item) job && is_open jobs logged

-- how many unhandled items the job has
abbrev pub left : State → ℕ → ℕ
left s job = count_by (is_open_of job s.jobs) s.items
