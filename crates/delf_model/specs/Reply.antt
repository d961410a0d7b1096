-- The answer to a call: its entry, or the first refusal that holds.
use Rattle.std.specs.Prelude.{ℕ, ◌+◌, ◌||◌, ◌∷◌, [], if◌then◌else◌, Bool, true, false, nat_eq, nat_lt, List, length, Option, Some, None, Result, Ok, Err, count_by, is_some, slice_get, option_map}
use Rattle.std.specs.Option.{option_or}
use Rattle.delf_model.specs.declared.rows.ObjectRow.{ObjectRow}
use Rattle.delf_model.specs.declared.rows.EdgeKey.{EdgeKey}
use Rattle.delf_model.specs.declared.rows.EdgeRow.{EdgeRow}
use Rattle.delf_model.specs.declared.call.Call.{Call}
use Rattle.delf_model.specs.declared.call.Refusal.{Refusal}
use Rattle.delf_model.specs.declared.schema.ObjectRule.{ObjectRule}
use Rattle.delf_model.specs.declared.schema.EdgeShape.{EdgeShape}
use Rattle.delf_model.specs.declared.entry.Tag.{Tag}
use Rattle.delf_model.specs.declared.entry.What.{What}
use Rattle.delf_model.specs.declared.call.Call.TheVariants as call
use Rattle.delf_model.specs.declared.entry.What.TheVariants.{Create, Update, Link, Unlink, Delete, Restore}
use Rattle.delf_model.specs.declared.schema.ObjectRule.TheVariants.{Directly, DirectlyOnly}
use Rattle.delf_model.specs.declared.ids.JobName.TheVariants.{Named}
use Rattle.delf_model.specs.declared.call.Refusal.TheVariants.{TooLong, Absent, Condemned, WrongEnd, NameTaken, EdgeTaken, NoEdge, NotDirect, JobTaken, NoJob, Pending, RestoredBefore, WindowOver, Full}
use Rattle.delf_model.specs.RuleSet.{RuleSet}
use Rattle.delf_model.specs.Graph.{object_at, edge_at, edge_stands}
use Rattle.delf_model.specs.State.{JobRow, State, owner, owned, job_row, find_job, last_erasure_or_zero}
use Rattle.delf_model.specs.Owners.{key_of, unlink_start}
use Rattle.delf_model.specs.Step.{step}
use Rattle.delf_model.specs.Room.{payload_limit, room_limit, used, owed, room}

-- the refusals, each with the values that it keeps; none where its condition fails

abbrev pub too_long : ℕ → Option Refusal
too_long size = if nat_lt payload_limit size then Some (TooLong size) else None

abbrev pub absent : State → ℕ → Option Refusal
absent s id = if is_some (object_at s.graph id) then None else Some (Absent id)

abbrev pub condemned_by : ℕ → Option ℕ → Option Refusal
condemned_by id by = option_map (Condemned id) by

abbrev pub condemned : State → ℕ → Option Refusal
condemned s id = condemned_by id (owner s id)

abbrev pub kind_differs : ℕ → ℕ → Option ObjectRow → Option Refusal
kind_differs id kind None = None
kind_differs id kind (Some row) = if nat_eq row.kind kind then None else Some (WrongEnd id row.kind)

abbrev pub wrong_source : State → ℕ → Option EdgeShape → Option Refusal
wrong_source s id None = None
wrong_source s id (Some shape) = kind_differs id shape.from (object_at s.graph id)

abbrev pub wrong_target : State → ℕ → Option EdgeShape → Option Refusal
wrong_target s id None = None
wrong_target s id (Some shape) = kind_differs id shape.to (object_at s.graph id)

abbrev pub name_taken_by : Option ObjectRow → Option Refusal
name_taken_by found = option_map (λ row. NameTaken row.id row.birth) found

abbrev pub name_taken : State → ℕ → Option Refusal
name_taken s id = name_taken_by (object_at s.graph id)

abbrev pub edge_taken_by : Option EdgeRow → Option Refusal
edge_taken_by found = option_map (λ row. EdgeTaken row.birth) found

abbrev pub edge_taken : State → EdgeKey → Option Refusal
edge_taken s key = edge_taken_by (edge_at s.graph key)

abbrev pub no_edge : State → EdgeKey → Option Refusal
no_edge s key = if edge_stands s.graph key then None else Some NoEdge

-- the type may be the root of a deletion
abbrev pub is_direct : ObjectRule → Bool
is_direct Directly = true
is_direct DirectlyOnly = true
is_direct rule = false

abbrev pub not_direct_rule : Option ObjectRule → Option Refusal
not_direct_rule None = None
not_direct_rule (Some rule) = if is_direct rule then None else Some (NotDirect rule)

abbrev pub not_direct_row : RuleSet → Option ObjectRow → Option Refusal
not_direct_row rules None = None
not_direct_row rules (Some row) = not_direct_rule (slice_get rules.objects row.kind)

abbrev pub not_direct : State → ℕ → Option Refusal
not_direct s id = not_direct_row s.rules (object_at s.graph id)

abbrev pub job_taken : State → ℕ → Option Refusal
job_taken s name = if is_some (find_job s.jobs (Named name)) then Some (JobTaken name) else None

abbrev pub job_taken_if : Bool → State → ℕ → Option Refusal
job_taken_if starts s name = if starts then job_taken s name else None

abbrev pub no_job : State → ℕ → Option Refusal
no_job s job = if is_some (job_row s.jobs job) then None else Some NoJob

abbrev pub pending : State → ℕ → Option Refusal
pending s job = if nat_eq (owned s job) 0 then None else Some (Pending (owned s job))

abbrev pub restored_by : Option ℕ → Option Refusal
restored_by restore = option_map (λ position. RestoredBefore position) restore

abbrev pub restored_before : Option JobRow → Option Refusal
restored_before None = None
restored_before (Some row) = restored_by row.restored

-- the last moment at which the job may be restored
abbrev pub window_end : State → JobRow → ℕ
window_end s row = last_erasure_or_zero row.last + s.rules.window

abbrev pub window_over : State → ℕ → Option JobRow → Option Refusal
window_over s moment None = None
window_over s moment (Some row) =
    if row.purged || nat_lt (window_end s row) moment then Some (WindowOver (window_end s row)) else None

-- no room: the entry would make the room more than the limit; the numbers kept are those before it
abbrev pub full : State → ℕ → What → Option Refusal
full s moment what =
    if nat_lt room_limit (room (step s (record { moment = moment; what = what }))) then Some (Full (used s) (owed s)) else None

-- the refusals that a call's entry may meet, in their order
abbrev pub refusals : State → ℕ → What → List (Option Refusal)
refusals s moment (Create tag kind id size) =
    too_long size ∷ name_taken s id ∷ full s moment (Create tag kind id size) ∷ []
refusals s moment (Update tag id size) =
    too_long size ∷ absent s id ∷ condemned s id ∷ full s moment (Update tag id size) ∷ []
refusals s moment (Link tag edge from to size) =
    too_long size ∷ absent s from ∷ absent s to ∷ condemned s from ∷ condemned s to ∷
    wrong_source s from (slice_get s.rules.edges edge) ∷ wrong_target s to (slice_get s.rules.edges edge) ∷
    edge_taken s (key_of edge from to) ∷ full s moment (Link tag edge from to size) ∷ []
refusals s moment (Unlink tag edge from to name) =
    absent s from ∷ absent s to ∷ condemned s from ∷ condemned s to ∷ no_edge s (key_of edge from to) ∷
    job_taken_if (is_some (unlink_start s edge from to name)) s name ∷ []
refusals s moment (Delete tag id name) =
    absent s id ∷ condemned s id ∷ not_direct s id ∷ job_taken s name ∷ []
refusals s moment (Restore tag job) =
    no_job s job ∷ pending s job ∷ restored_before (job_row s.jobs job) ∷ window_over s moment (job_row s.jobs job) ∷
    full s moment (Restore tag job) ∷ []
refusals s moment what = []

abbrev pub first_refusal : List (Option Refusal) → Option Refusal
first_refusal [] = None
first_refusal (x ∷ xs) = option_or x (first_refusal xs)

-- the first refusal that holds
abbrev pub refused : State → ℕ → What → Option Refusal
refused s moment what = first_refusal (refusals s moment what)

-- the answer

abbrev pub restore_of : Tag → Option ℕ → Option What
restore_of tag found = option_map (Restore tag) found

-- the entry that a call asks for; none where a Restore names no job
abbrev pub asked : State → Tag → Call → Option What
asked s tag (call.Create kind id payload) = Some (Create tag kind id (length payload))
asked s tag (call.Update id payload) = Some (Update tag id (length payload))
asked s tag (call.Link edge from to payload) = Some (Link tag edge from to (length payload))
asked s tag (call.Unlink edge from to name) = Some (Unlink tag edge from to name)
asked s tag (call.Delete id name) = Some (Delete tag id name)
asked s tag (call.Restore name) = restore_of tag (find_job s.jobs name)

abbrev pub answered_by : What → Option Refusal → Result What Refusal
answered_by what None = Ok what
answered_by what (Some refusal) = Err refusal

abbrev pub answered : State → ℕ → Option What → Result What Refusal
answered s moment None = Err NoJob
answered s moment (Some what) = answered_by what (refused s moment what)

-- how many entries of the history were made by the seat
abbrev pub seat_entries : State → ℕ → ℕ
seat_entries s seat = count_by (λ other. nat_eq other seat) s.seats

abbrev pub next_tag : State → ℕ → Tag
next_tag s seat = record { seat = seat; k = seat_entries s seat }

-- the answer to a call with this tag at this moment: what the entry is, or the first refusal
abbrev pub reply_at : State → ℕ → Tag → Call → Result What Refusal
reply_at s moment tag call = answered s moment (asked s tag call)

-- the answer to a call of a seat
abbrev pub reply : State → ℕ → ℕ → Call → Result What Refusal
reply s moment seat call = reply_at s moment (next_tag s seat) call
