-- What an entry of each kind changes, and the state after a history.
use Rattle.std.specs.Prelude.{ℕ, ◌+◌, ◌++◌, ◌∷◌, [], if◌then◌else◌, zero, suc, true, false, nat_eq, List, Option, Some, None, map, slice_get}
use Rattle.delf_model.specs.declared.rows.ObjectRow.{ObjectRow}
use Rattle.delf_model.specs.declared.rows.EdgeRow.{EdgeRow}
use Rattle.delf_model.specs.declared.rows.Item.{Item}
use Rattle.delf_model.specs.declared.call.Cause.{Cause}
use Rattle.delf_model.specs.declared.ids.JobName.{JobName}
use Rattle.delf_model.specs.declared.schema.ObjectRule.{ObjectRule}
use Rattle.delf_model.specs.declared.entry.Entry.{Entry}
use Rattle.delf_model.specs.declared.entry.Tag.{Tag}
use Rattle.delf_model.specs.declared.entry.What.{What}
use Rattle.delf_model.specs.declared.rows.Item.TheVariants as item
use Rattle.delf_model.specs.declared.entry.What.TheVariants.{Create, Update, Link, Unlink, Delete, Restore, Expire, Cut, Erase, Put, Purge}
use Rattle.delf_model.specs.declared.schema.ObjectRule.TheVariants.{ShortTtl}
use Rattle.delf_model.specs.declared.ids.JobName.TheVariants.{Named, Expiry}
use Rattle.delf_model.specs.RuleSet.{RuleSet}
use Rattle.delf_model.specs.Graph.{Graph, object_at, edge_at, Change, changed, Same, PutsObject, TakesObject, RewritesObject, PutsEdge, TakesEdge}
use Rattle.delf_model.specs.State.{Handled, Logged, JobRow, State, start}
use Rattle.delf_model.specs.Puts.{judged}
use Rattle.delf_model.specs.Owners.{key_of, unlink_start, start_of, root_of_start, owners_after}

-- the graph

-- the moment from which a new object expires, 0 where its type does not expire
abbrev pub due_of : Option ObjectRule → ℕ → ℕ
due_of (Some (ShortTtl seconds)) moment = moment + seconds
due_of rule moment = 0

-- the row of a new object
abbrev pub new_object : State → ℕ → ℕ → ℕ → ℕ → ObjectRow
new_object s moment kind id size = record {
  id = id;
  kind = kind;
  birth = s.len;
  due = due_of (slice_get s.rules.objects kind) moment;
  at = s.len;
  size = size;
}

-- the row of a new edge
abbrev pub new_edge : State → ℕ → ℕ → ℕ → ℕ → EdgeRow
new_edge s edge from to size = record { key = key_of edge from to; birth = s.len; size = size }

abbrev pub put_of_item : Item → Change
put_of_item (item.Object job row) = PutsObject row
put_of_item (item.Edge job row from_birth to_birth) = PutsEdge row

abbrev pub put_unless : Option Cause → Item → Change
put_unless None it = put_of_item it
put_unless (Some cause) it = Same

abbrev pub put_change : State → Option Logged → Change
put_change s None = Same
put_change s (Some logged) = put_unless (judged s logged.item) logged.item

abbrev pub change_of : State → ℕ → What → Change
change_of s moment (Create tag kind id size) = PutsObject (new_object s moment kind id size)
change_of s moment (Update tag id size) = RewritesObject id s.len size
change_of s moment (Link tag edge from to size) = PutsEdge (new_edge s edge from to size)
change_of s moment (Unlink tag edge from to name) = TakesEdge (key_of edge from to)
change_of s moment (Cut job edge from to) = TakesEdge (key_of edge from to)
change_of s moment (Erase job id) = TakesObject id
change_of s moment (Put job i) = put_change s (slice_get s.items i)
change_of s moment what = Same

-- the graph after the entry
abbrev pub graph_after : State → ℕ → What → Graph
graph_after s moment what = changed s.graph (change_of s moment what)

-- the items

abbrev pub birth_of_row : Option ObjectRow → ℕ
birth_of_row None = 0
birth_of_row (Some row) = row.birth

-- the birth of the object with this id
abbrev pub birth_of : Graph → ℕ → ℕ
birth_of g id = birth_of_row (object_at g id)

abbrev pub unhandled : Item → Logged
unhandled it = record { item = it; handled = None }

-- the item of a cut: the row that the graph had, with the births of its ends
abbrev pub edge_item : Graph → ℕ → Option EdgeRow → List Logged
edge_item g job None = []
edge_item g job (Some row) =
    unhandled (item.Edge job row (birth_of g row.key.from) (birth_of g row.key.to)) ∷ []

-- the item of an erasure: the row that the graph had
abbrev pub object_item : ℕ → Option ObjectRow → List Logged
object_item job None = []
object_item job (Some row) = unhandled (item.Object job row) ∷ []

-- the items with the one at this number handled
abbrev pub handled_at : List Logged → ℕ → Handled → List Logged
handled_at [] i how = []
handled_at (x ∷ xs) zero how = record { item = x.item; handled = Some how } ∷ xs
handled_at (x ∷ xs) (suc i) how = x ∷ handled_at xs i how

abbrev pub outcome : State → Option Logged → Handled
outcome s None = record { put = s.len; cause = None }
outcome s (Some logged) = record { put = s.len; cause = judged s logged.item }

abbrev pub items_after : State → What → List Logged
items_after s (Cut job edge from to) = s.items ++ edge_item s.graph job (edge_at s.graph (key_of edge from to))
items_after s (Erase job id) = s.items ++ object_item job (object_at s.graph id)
items_after s (Put job i) = handled_at s.items i (outcome s (slice_get s.items i))
items_after s what = s.items

-- the jobs

-- the row with its Restore at this position, where it is the job's
abbrev pub row_restored_at : ℕ → ℕ → JobRow → JobRow
row_restored_at job position row = if nat_eq row.start job then record row { restored = Some position } else row

abbrev pub purged_if : ℕ → JobRow → JobRow
purged_if job row = if nat_eq row.start job then record row { purged = true } else row

abbrev pub erased_at : ℕ → ℕ → JobRow → JobRow
erased_at job moment row = if nat_eq row.start job then record row { last = Some moment } else row

abbrev pub new_job : ℕ → ℕ → JobName → JobRow
new_job start root name = record {
  start = start;
  root = root;
  name = name;
  restored = None;
  purged = false;
  last = None;
}

abbrev pub started_job : ℕ → Option (ℕ × JobName) → List JobRow
started_job position None = []
started_job position (Some pair) = new_job position pair.0 pair.1 ∷ []

abbrev pub jobs_after : State → ℕ → What → List JobRow
jobs_after s moment (Unlink tag edge from to name) = s.jobs ++ started_job s.len (unlink_start s edge from to name)
jobs_after s moment (Delete tag id name) = s.jobs ++ new_job s.len id (Named name) ∷ []
jobs_after s moment (Expire id) = s.jobs ++ new_job s.len id (Expiry id) ∷ []
jobs_after s moment (Restore tag job) = map (row_restored_at job s.len) s.jobs
jobs_after s moment (Cut job edge from to) = map (erased_at job moment) s.jobs
jobs_after s moment (Erase job id) = map (erased_at job moment) s.jobs
jobs_after s moment (Purge job) = map (purged_if job) s.jobs
jobs_after s moment what = s.jobs

-- the whole state

-- the tag of an entry that a call made
abbrev pub tag_of : What → Option Tag
tag_of (Create tag kind id size) = Some tag
tag_of (Update tag id size) = Some tag
tag_of (Link tag edge from to size) = Some tag
tag_of (Unlink tag edge from to name) = Some tag
tag_of (Delete tag id name) = Some tag
tag_of (Restore tag job) = Some tag
tag_of what = None

abbrev pub seats_with : List ℕ → Option Tag → List ℕ
seats_with seats None = seats
seats_with seats (Some tag) = seats ++ tag.seat ∷ []

-- the state with one entry more
abbrev pub step : State → Entry → State
step s e = record {
  rules = s.rules;
  len = s.len + 1;
  moment = e.moment;
  graph = graph_after s e.moment e.what;
  owners = owners_after s.rules s.graph (graph_after s e.moment e.what) (root_of_start (start_of s e.what)) s.len s.owners;
  items = items_after s e.what;
  jobs = jobs_after s e.moment e.what;
  seats = seats_with s.seats (tag_of e.what);
}

-- the state after further entries
abbrev pub run : State → List Entry → State
run s [] = s
run s (e ∷ es) = run (step s e) es

-- the state after a history
abbrev pub after : RuleSet → List Entry → State
after rules history = run (start rules) history
