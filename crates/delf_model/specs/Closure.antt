-- What belongs to a root: the closure in one graph, the parts of a history in which it holds, what a job took, the union.
use Rattle.std.specs.Prelude.{◌≡◌, ℕ, ◌+◌, ◌<◌, ◌≤◌, Bool, true, false, ◌&&◌, ◌||◌, not, nat_eq, List, [], ◌∷◌, Option, Some, None, is_some, is_none, length, slice_get, take, ◌⊎◌, if◌then◌else◌, option_map}
use Rattle.std.specs.List.{list_any}
use Rattle.delf_model.specs.declared.rows.ObjectRow.{ObjectRow}
use Rattle.delf_model.specs.declared.rows.EdgeKey.{EdgeKey}
use Rattle.delf_model.specs.declared.rows.EdgeRow.{EdgeRow}
use Rattle.delf_model.specs.declared.rows.Item.{Item}
use Rattle.delf_model.specs.declared.rows.Item.TheVariants as item
use Rattle.delf_model.specs.declared.entry.Entry.{Entry}
use Rattle.delf_model.specs.declared.entry.What.{What}
use Rattle.delf_model.specs.declared.entry.What.TheVariants.{Create, Update, Link, Unlink, Delete, Expire, Cut, Erase, Put}
use Rattle.delf_model.specs.RuleSet.{RuleSet, is_deep, is_refcount}
use Rattle.delf_model.specs.Graph.{Graph, object_at, edge_stands, stands, same_key, touches, has_refs, put_object, put_edge}
use Rattle.delf_model.specs.State.{State, Logged, JobRow, owner, job_row, job_of}
use Rattle.delf_model.specs.Step.{after}

abbrev pub has : List ℕ → ℕ → Bool
has ids id = list_any (λ x. nat_eq x id) ids

-- a list of objects that holds the target of each deep edge from a member, and each object whose references,
-- of which there is at least one, all come from members
pub record IsClosed (rules : RuleSet) (g : Graph) (ids : List ℕ) : Type 0 where
  pub objects : (id : ℕ) → has ids id ≡ true → is_some (object_at g id) ≡ true
  pub deep : (key : EdgeKey) → edge_stands g key ≡ true → is_deep rules key.edge ≡ true →
      has ids key.from ≡ true → has ids key.to ≡ true
  pub counted : (id : ℕ) → is_some (object_at g id) ≡ true → has_refs rules g id ≡ true →
      ((key : EdgeKey) → edge_stands g key ≡ true → is_refcount rules key.edge ≡ true → key.to ≡ id → has ids key.from ≡ true) →
      has ids id ≡ true

-- the closure of a root holds an object exactly where every closed list that holds the root holds it
abbrev pub Closure : RuleSet → Graph → ℕ → ℕ → Type 0
Closure rules g root id = (ids : List ℕ) → IsClosed rules g ids → has ids root ≡ true → has ids id ≡ true

abbrev pub item_names : ℕ → Item → Bool
item_names id (item.Object job row) = nat_eq row.id id
item_names id (item.Edge job row from_birth to_birth) = touches id row.key

abbrev pub logged_names : ℕ → Option Logged → Bool
logged_names id None = false
logged_names id (Some logged) = item_names id logged.item

-- whether an entry names the id; a Put names the ids of its item, a Restore and a Purge none
abbrev pub names : State → What → ℕ → Bool
names s (Create tag kind id size) other = nat_eq id other
names s (Update tag id size) other = nat_eq id other
names s (Link tag edge from to size) other = nat_eq from other || nat_eq to other
names s (Unlink tag edge from to name) other = nat_eq from other || nat_eq to other
names s (Delete tag id name) other = nat_eq id other
names s (Expire id) other = nat_eq id other
names s (Cut job edge from to) other = nat_eq from other || nat_eq to other
names s (Erase job id) other = nat_eq id other
names s (Put job i) other = logged_names other (slice_get s.items i)
names s what other = false

-- a Cut, Erase or Put of the job
abbrev pub is_step_of : ℕ → What → Bool
is_step_of job (Cut other edge from to) = nat_eq other job
is_step_of job (Erase other id) = nat_eq other job
is_step_of job (Put other i) = nat_eq other job
is_step_of job what = false

-- an entry is a step of the job, or names none of the ids
abbrev pub LeavesAlone : ℕ → List ℕ → State → What → Type 0
LeavesAlone job ids s what = (is_step_of job what ≡ true) ⊎ ((id : ℕ) → has ids id ≡ true → names s what id ≡ false)

abbrev pub root_of_row : Option JobRow → Option ℕ
root_of_row found = option_map (λ row. row.root) found

abbrev pub root_of : State → ℕ → Option ℕ
root_of s job = root_of_row (job_row s.jobs job)

-- a calm part for a start: ids of which, after the start, none but the root has an owner, and no edge has exactly one
-- end among them; up to the length q no entry but a step of the job names any of them
pub record Calm (rules : RuleSet) (history : List Entry) (job : ℕ) (root : ℕ) (q : ℕ) (ids : List ℕ) : Type 0 where
  pub later : job < q
  pub within : q ≤ length history
  pub begun : root_of (after rules (take (job + 1) history)) job ≡ Some root
  pub held : has ids root ≡ true
  pub free : (id : ℕ) (other : ℕ) → has ids id ≡ true →
      owner (after rules (take (job + 1) history)) id ≡ Some other → id ≡ root
  pub whole : (key : EdgeKey) → edge_stands (after rules (take (job + 1) history)).graph key ≡ true →
      has ids key.from ≡ has ids key.to
  pub quiet : (p : ℕ) (e : Entry) → job < p → p < q → slice_get history p ≡ Some e →
      LeavesAlone job ids (after rules (take p history)) e.what

-- what a job took, by its items

abbrev pub erased_item : ℕ → ℕ → Item → Bool
erased_item job id (item.Object other row) = nat_eq other job && nat_eq row.id id
erased_item job id (item.Edge other row from_birth to_birth) = false

abbrev pub cut_item : ℕ → EdgeKey → Item → Bool
cut_item job key (item.Object other row) = false
cut_item job key (item.Edge other row from_birth to_birth) = nat_eq other job && same_key row.key key

-- whether the job erased an object with this id
abbrev pub has_erased : State → ℕ → ℕ → Bool
has_erased s job id = list_any (λ logged. erased_item job id logged.item) s.items

-- whether the job cut an edge with this key
abbrev pub has_cut : State → ℕ → EdgeKey → Bool
has_cut s job key = list_any (λ logged. cut_item job key logged.item) s.items

-- the items as a list
abbrev pub items_of_job : ℕ → List Logged → List Item
items_of_job job [] = []
items_of_job job (x ∷ xs) = if nat_eq (job_of x.item) job then x.item ∷ items_of_job job xs else items_of_job job xs

-- the union of a graph and items: the object items whose id is free, then the edge items whose key is free and each of
-- whose ends stands among these objects with its logged birth and without an owner

abbrev pub with_objects : Graph → List Item → List ObjectRow
with_objects g [] = g.objects
with_objects g (item.Object job row ∷ rest) =
    if is_some (object_at g row.id) then with_objects g rest else put_object row (with_objects g rest)
with_objects g (item.Edge job row from_birth to_birth ∷ rest) = with_objects g rest

abbrev pub end_fits : State → Graph → ℕ → ℕ → Bool
end_fits s among id birth = stands among id birth && is_none (owner s id)

abbrev pub edge_fits : State → Graph → EdgeKey → ℕ → ℕ → Bool
edge_fits s among key from_birth to_birth =
    not (edge_stands s.graph key) && end_fits s among key.from from_birth && end_fits s among key.to to_birth

abbrev pub with_edges : State → Graph → List Item → List EdgeRow
with_edges s among [] = s.graph.edges
with_edges s among (item.Object job row ∷ rest) = with_edges s among rest
with_edges s among (item.Edge job row from_birth to_birth ∷ rest) =
    if edge_fits s among row.key from_birth to_birth then put_edge row (with_edges s among rest) else with_edges s among rest

abbrev pub joined_objects : State → List Item → Graph
joined_objects s items = record { objects = with_objects s.graph items; edges = s.graph.edges }

-- the union of the graph of a state and items
abbrev pub union : State → List Item → Graph
union s items = record { objects = with_objects s.graph items; edges = with_edges s (joined_objects s items) items }
