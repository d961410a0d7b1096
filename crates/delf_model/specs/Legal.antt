-- Which entry may come next, and which histories are legal.
use Rattle.std.specs.Prelude.{ℕ, ◌≡◌, ◌+◌, ◌*◌, ◌&&◌, ◌||◌, ◌∷◌, [], Bool, true, false, not, nat_eq, nat_lt, nat_le, List, length, Option, Some, None, is_some, is_none, slice_get, IsTrue, take}
use Rattle.std.specs.List.{list_all}
use Rattle.delf_model.specs.declared.rows.ObjectRow.{ObjectRow}
use Rattle.delf_model.specs.declared.rows.Item.{Item}
use Rattle.delf_model.specs.declared.entry.Entry.{Entry}
use Rattle.delf_model.specs.declared.entry.Tag.{Tag}
use Rattle.delf_model.specs.declared.entry.What.{What}
use Rattle.delf_model.specs.declared.rows.Item.TheVariants as item
use Rattle.delf_model.specs.declared.entry.What.TheVariants.{Create, Link, Restore, Expire, Cut, Erase, Put, Purge}
use Rattle.delf_model.specs.RuleSet.{RuleSet}
use Rattle.delf_model.specs.Graph.{object_at, edge_stands, is_touched}
use Rattle.delf_model.specs.State.{Logged, JobRow, State, start, owner, is_job, is_owned_by, owned, job_row, find_job, job_of, is_open, left}
use Rattle.delf_model.specs.Owners.{key_of}
use Rattle.delf_model.specs.Step.{tag_of, step, after}
use Rattle.delf_model.specs.Room.{may_come}
use Rattle.delf_model.specs.Reply.{window_end, refused, seat_entries}

-- a call's entry has the number of its seat's earlier entries, and a seat that so short a history may have
abbrev pub is_tag : State → Option Tag → Bool
is_tag s None = true
is_tag s (Some tag) = nat_eq tag.k (seat_entries s tag.seat) && nat_le tag.seat (64 * (s.len + 1))

-- types and edge types are named by numbers of the rules
abbrev pub is_numbered : RuleSet → What → Bool
is_numbered rules (Create tag kind id size) = nat_lt kind (length rules.objects)
is_numbered rules (Link tag edge from to size) = nat_lt edge (length rules.edges)
is_numbered rules what = true

-- the job can be named: its name means no later one
abbrev pub is_named_so : State → ℕ → Option JobRow → Bool
is_named_so s job None = false
is_named_so s job (Some row) = is_job job (find_job s.jobs row.name)

abbrev pub is_due_row : ℕ → Option ObjectRow → Bool
is_due_row moment None = false
is_due_row moment (Some row) = nat_lt 0 row.due && nat_le row.due moment

abbrev pub may_expire : State → ℕ → ℕ → Bool
may_expire s moment id = is_due_row moment (object_at s.graph id) && is_none (owner s id)

-- puts

-- an object of a job that ends an edge item: the id and the birth
abbrev pub is_end_item : ℕ → ℕ → ℕ → Item → Bool
is_end_item job id birth (item.Object other row) = nat_eq other job && nat_eq row.id id && nat_eq row.birth birth
is_end_item job id birth (item.Edge other row from_birth to_birth) = false

abbrev pub is_handled_end : ℕ → ℕ → ℕ → Logged → Bool
is_handled_end job id birth logged = not (is_end_item job id birth logged.item) || is_some logged.handled

-- every object item of the job with that id and birth is handled
abbrev pub end_handled : List Logged → ℕ → ℕ → ℕ → Bool
end_handled items job id birth = list_all (is_handled_end job id birth) items

abbrev pub ends_handled : List Logged → Item → Bool
ends_handled items (item.Object job row) = true
ends_handled items (item.Edge job row from_birth to_birth) =
    end_handled items job row.key.from from_birth && end_handled items job row.key.to to_birth

-- an item may be put: it is an unhandled one of this job, and the objects that end an edge are handled
abbrev pub may_put : State → ℕ → Option Logged → Bool
may_put s job None = false
may_put s job (Some logged) = nat_eq (job_of logged.item) job && is_open s.jobs logged && ends_handled s.items logged.item

-- purges

abbrev pub window_passed : State → ℕ → JobRow → Bool
window_passed s moment row = nat_lt (window_end s row) moment

-- a job may be purged: it is done, not purged, has no unhandled item, and the window after its last erasure is over
abbrev pub may_purge : State → ℕ → Option JobRow → Bool
may_purge s moment None = false
may_purge s moment (Some row) =
    nat_eq (owned s row.start) 0 && not row.purged && nat_eq (left s row.start) 0 && window_passed s moment row

-- what an entry of each kind has to meet
abbrev pub is_allowed : State → ℕ → What → Bool
is_allowed s moment (Restore tag job) =
    is_named_so s job (job_row s.jobs job) && is_none (refused s moment (Restore tag job))
is_allowed s moment (Expire id) = may_expire s moment id
is_allowed s moment (Cut job edge from to) =
    edge_stands s.graph (key_of edge from to) && (is_owned_by s job from || is_owned_by s job to)
is_allowed s moment (Erase job id) = is_owned_by s job id && not (is_touched s.graph id)
is_allowed s moment (Put job i) = may_put s job (slice_get s.items i)
is_allowed s moment (Purge job) = may_purge s moment (job_row s.jobs job)
is_allowed s moment what = is_none (refused s moment what)

-- an entry that may come next
abbrev pub is_legal : State → Entry → Bool
is_legal s e = may_come s e.moment && is_tag s (tag_of e.what) && is_numbered s.rules e.what && is_allowed s e.moment e.what

abbrev pub is_legal_from : State → List Entry → Bool
is_legal_from s [] = true
is_legal_from s (e ∷ es) = is_legal s e && is_legal_from (step s e) es

-- a history in which each entry is legal at its position
abbrev pub Legal : RuleSet → List Entry → Type 0
Legal rules history = IsTrue (is_legal_from (start rules) history)

-- a fact about each position: the state there, the entry, the state after it
abbrev pub EachStep : (State → What → State → Type 0) → RuleSet → List Entry → Type 0
EachStep P rules history =
    (p : ℕ) (e : Entry) → slice_get history p ≡ Some e →
    P (after rules (take p history)) e.what (after rules (take (p + 1) history))
