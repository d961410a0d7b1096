-- The serial meaning of a script: the lines of each command in a world, and the next world.
use Rattle.std.specs.Prelude.{◌≡◌, ◌≢◌, ℕ, zero, suc, ◌<◌, ◌≤◌, Bool, true, false, cond, Option, Some, None, Result, Ok, Err, List, [], ◌∷◌, ◌++◌, ◌⊎◌, length, map, flat_map, slice_get, is_some}
use Rattle.delf_disk.specs.Causes.{Rose}
use Rattle.delf_model.specs.declared.schema.Schema.{Schema}
use Rattle.delf_model.specs.declared.rows.ObjectRow.{ObjectRow}
use Rattle.delf_model.specs.declared.rows.EdgeRow.{EdgeRow}
use Rattle.delf_model.specs.declared.rows.Item.{Item}
use Rattle.delf_model.specs.declared.rows.Item.TheVariants as item
use Rattle.delf_model.specs.declared.ids.JobName.{JobName}
use Rattle.delf_model.specs.declared.call.Call.{Call}
use Rattle.delf_model.specs.declared.call.Call.TheVariants as call
use Rattle.delf_model.specs.declared.call.Listed.{Listed}
use Rattle.delf_model.specs.declared.call.Refusal.{Refusal}
use Rattle.delf_model.specs.declared.call.Refusal.TheVariants as refusal
use Rattle.delf_model.specs.declared.entry.What.{What}
use Rattle.delf_model.specs.declared.script.Command.{Command}
use Rattle.delf_model.specs.declared.script.Command.TheVariants.{Submit, Work, Tick, Get, Show, Job, Jobs, Report, Fail, Crash, Par}
use Rattle.delf_model.specs.declared.script.Lane.{Lane}
use Rattle.delf_model.specs.Graph.{object_at}
use Rattle.delf_model.specs.Legal.{Legal}
use Rattle.delf_model.specs.State.{State, JobRow, owner, find_job, job_row}
use Rattle.delf_model.specs.Owners.{unlink_start}
use Rattle.delf_model.specs.Reply.{reply}
use Rattle.delf_model.specs.Order.{first_step}
use Rattle.delf_model.specs.Report.{job_line, listed_from}
use Rattle.job_report.specs.declared.work.WorkEnd.{WorkEnd}
use Rattle.job_report.specs.declared.work.WorkEnd.TheVariants as work_end
use Rattle.job_report.specs.Texts.{created_text, updated_text, linked_text, unlinked_text, deleting_text, restoring_text, work_text, graph_text, object_text, edge_text, found_text, absent_text, job_text, listed_text, no_job_text, jobs_text, report_text, refusal_text, down_text, opened_text}
use Rattle.delf_model.specs.State.{Logged, position_of}
use Rattle.delf_model.specs.Payloads.{payload_at}
use Rattle.store_laws.specs.Stores.{digest}
use Rattle.delf_book.specs.Parts.{Interrupted}
use Rattle.delf_book.specs.Books.{given_by, restored_items}
use Rattle.delf_book.specs.Steps.{PutsItem}
use Rattle.documents.specs.Names.{kind_name, edge_name}
use Rattle.script_runner.specs.Blocks.{RunsLanes, LeavesLanes}
use Rattle.script_runner.specs.Lines.{refusal_name}
use Rattle.script_runner.specs.Worlds.{World, state_of, now_of, interrupted, entered, with_entry, fallen, mended, later}

-- calls

-- the answer to a call of seat 0, made now
abbrev pub answer : World → Call → Result What Refusal
answer w asked = reply (state_of w) (now_of w) 0 asked

-- the job that an unlink starts
abbrev pub started_name : State → ℕ → ℕ → ℕ → ℕ → Option ℕ
started_name s edge from to name = cond (is_some (unlink_start s edge from to name)) (Some name) None

-- the line of an accepted call
abbrev pub accepted_text : Schema → World → Call → What → List ℕ
accepted_text schema w (call.Create kind id payload) made = created_text (length w.history) id
accepted_text schema w (call.Update id payload) made = updated_text (length w.history) id
accepted_text schema w (call.Link edge from to payload) made = linked_text (length w.history) (edge_name schema edge) from to
accepted_text schema w (call.Unlink edge from to name) made =
    unlinked_text (length w.history) (edge_name schema edge) from to (started_name (state_of w) edge from to name)
accepted_text schema w (call.Delete id name) made = deleting_text (length w.history) id name
accepted_text schema w (call.Restore name) made = restoring_text (length w.history) name (restored_items (state_of w) made)

abbrev pub answer_text : Schema → World → Call → Result What Refusal → List ℕ
answer_text schema w asked (Ok made) = accepted_text schema w asked made
answer_text schema w asked (Err refused) = refusal_text refused (length w.history) (refusal_name schema refused)

-- the world after an answer
abbrev pub after_answer : World → Call → Result What Refusal → World
after_answer w asked (Ok made) = with_entry w made (given_by asked)
after_answer w asked (Err refused) = w

-- work: each step is the first of the serial order

abbrev pub next_step : World → Option What
next_step w = first_step (state_of w) (now_of w)

-- the step would put back this item, whose payload is not the one that was sealed
pub record PutsDamaged (w : World) (what : What) (item : ℕ) : Type 0 where
  pub logged : Logged
  pub puts : PutsItem (state_of w) what item logged
  pub differs : slice_get w.payloads.seals item ≢ Some (digest (payload_at w.payloads (position_of logged.item)))

-- one step, which puts nothing damaged back
pub record StepsTo (w next : World) : Type 0 where
  pub what : What
  pub is_first : next_step w ≡ Some what
  pub whole : (item : ℕ) → PutsDamaged w what item → ⊥
  pub is_next : next ≡ with_entry w what []

-- so many steps
unfoldable pub MakesSteps : ℕ → World → World → Type 0
MakesSteps zero w next = next ≡ w
MakesSteps (suc n) w next = (here : World) × (MakesSteps n w here × StepsTo here next)

-- rows

abbrev pub object_line : Schema → World → ObjectRow → List ℕ
object_line schema w row = object_text row (kind_name schema row.kind) (payload_at w.payloads row.at) (owner (state_of w) row.id)

abbrev pub edge_line : Schema → World → EdgeRow → List ℕ
edge_line schema w row = edge_text row (edge_name schema row.key.edge) (payload_at w.payloads row.birth)

-- the graph: its numbers, the objects by id, the edges by key
abbrev pub graph_lines : Schema → World → List ℕ
graph_lines schema w =
    graph_text (length (state_of w).graph.objects) (length (state_of w).graph.edges)
    ++ flat_map (object_line schema w) (state_of w).graph.objects
    ++ flat_map (edge_line schema w) (state_of w).graph.edges

abbrev pub row_found : Schema → World → ℕ → Option ObjectRow → List ℕ
row_found schema w id None = absent_text (length w.history) id
row_found schema w id (Some row) =
    found_text (length w.history) row (kind_name schema row.kind) (payload_at w.payloads row.at) (owner (state_of w) row.id)

-- jobs

abbrev pub item_name : Schema → Item → List ℕ
item_name schema (item.Object job row) = []
item_name schema (item.Edge job row from_birth to_birth) = edge_name schema row.key.edge

abbrev pub listed_line : Schema → Listed → List ℕ
listed_line schema listed = listed_text listed (item_name schema listed.row)

abbrev pub row_lines : Schema → State → JobName → Option JobRow → List ℕ
row_lines schema s name None = no_job_text name
row_lines schema s name (Some row) =
    job_text (job_line s row) ++ flat_map (listed_line schema) (listed_from row.start 0 s.items)

abbrev pub row_named : State → Option ℕ → Option JobRow
row_named s None = None
row_named s (Some job) = job_row s.jobs job

-- the job that the name means, with the items that it listed
abbrev pub job_lines : Schema → State → JobName → List ℕ
job_lines schema s name = row_lines schema s name (row_named s (find_job s.jobs name))

abbrev pub job_text_of : State → JobRow → List ℕ
job_text_of s row = job_text (job_line s row)

abbrev pub jobs_lines : State → List ℕ
jobs_lines s = jobs_text (length s.jobs) ++ flat_map (job_text_of s) s.jobs

abbrev pub report_line : State → List ℕ
report_line s = report_text (length s.graph.objects) (length s.graph.edges) s.len (map (job_line s) s.jobs)

-- commands, by the count of the disk's faults before and after: where it does not rise none was met

-- what is printed while the world is down
abbrev pub refused_down : World → List ℕ
refused_down w = refusal_text (refusal.Down (length w.history)) (length w.history) []

-- a writing call
pub data Submits (schema : Schema) (w : World) (asked : Call) (before now : ℕ) (text : List ℕ) (next : World) : Type 0 where
  Answers : w.down ≡ false → now ≡ before → text ≡ answer_text schema w asked (answer w asked) → next ≡ after_answer w asked (answer w asked) →
      Submits schema w asked before now text next
  Falls : (what : What) → w.down ≡ false → Rose before now → answer w asked ≡ Ok what → text ≡ down_text (length w.history) →
      next ≡ fallen w (Some (interrupted w what (given_by asked))) → Submits schema w asked before now text next
  WasDown : w.down ≡ true → now ≡ before → text ≡ refused_down w → next ≡ w → Submits schema w asked before now text next

-- so many steps of at most n, and why no more were made
pub data StepsEnd (n : ℕ) (w : World) (before now made : ℕ) (end : WorkEnd) (next : World) : Type 0 where
  MakesAll : made ≡ n → now ≡ before → MakesSteps made w next → end ≡ work_end.All → StepsEnd n w before now made end next
  Idles : made < n → now ≡ before → MakesSteps made w next → next_step next ≡ None → end ≡ work_end.Idle → StepsEnd n w before now made end next
  MeetsDamage : (item : ℕ) (what : What) → made < n → now ≡ before → MakesSteps made w next → next_step next ≡ Some what → PutsDamaged next what item →
      end ≡ work_end.Damaged item → StepsEnd n w before now made end next
  Falls : (here : World) (what : What) → made < n → Rose before now → MakesSteps made w here → next_step here ≡ Some what →
      end ≡ work_end.Down (length here.history) → next ≡ fallen here (Some (interrupted here what [])) → StepsEnd n w before now made end next

-- at most so many steps
pub data Works (n : ℕ) (w : World) (before now : ℕ) (text : List ℕ) (next : World) : Type 0 where
  Makes : (made : ℕ) (end : WorkEnd) → w.down ≡ false → StepsEnd n w before now made end next → text ≡ work_text made end → Works n w before now text next
  WasDown : w.down ≡ true → now ≡ before → text ≡ refused_down w → next ≡ w → Works n w before now text next

-- what is to be said where the disk can be read
pub data Reads (w : World) (said : List ℕ) (before now : ℕ) (text : List ℕ) (next : World) : Type 0 where
  Tells : w.down ≡ false → now ≡ before → text ≡ said → next ≡ w → Reads w said before now text next
  Falls : w.down ≡ false → Rose before now → text ≡ down_text (length w.history) → next ≡ fallen w None → Reads w said before now text next
  WasDown : w.down ≡ true → now ≡ before → text ≡ refused_down w → next ≡ w → Reads w said before now text next

-- what makes no disk call
pub record Goes (said : List ℕ) (to : World) (before now : ℕ) (text : List ℕ) (next : World) : Type 0 where
  pub count : now ≡ before
  pub text_is : text ≡ said
  pub next_is : next ≡ to

-- a cut of the power and an opening that was not refused: the history is the kept one, or of a world that was down that with
-- the entry beside it, which is then legal
pub data Crashes (w : World) (before now : ℕ) (text : List ℕ) (next : World) : Type 0 where
  Keeps : now ≡ before → text ≡ opened_text (length next.history) → next ≡ mended w → Crashes w before now text next
  Enters : (it : Interrupted) → w.down ≡ true → w.beside ≡ Some it → Legal w.rules (w.history ++ it.entry ∷ []) → now ≡ before →
      text ≡ opened_text (length next.history) → next ≡ entered w it →
      Crashes w before now text next

-- a block of lanes
pub data Blocks (schema : Schema) (w : World) (quiet : Bool) (lanes : List Lane) (before now : ℕ) (text : List ℕ) (next : World) : Type 0 where
  Runs : RunsLanes schema w quiet lanes before now text next → Blocks schema w quiet lanes before now text next
  WasDown : w.down ≡ true → now ≡ before → text ≡ refused_down w → next ≡ w → Blocks schema w quiet lanes before now text next

-- the lines of a command in a world, and the next world
abbrev pub Serves : Schema → World → Command → ℕ → ℕ → List ℕ → World → Type 0
Serves schema w (Submit asked) before now text next = Submits schema w asked before now text next
Serves schema w (Work n) before now text next = Works n w before now text next
Serves schema w (Tick n) before now text next = Goes [] (later w n) before now text next
Serves schema w (Get id) before now text next = Reads w (row_found schema w id (object_at (state_of w).graph id)) before now text next
Serves schema w Show before now text next = Reads w (graph_lines schema w) before now text next
Serves schema w (Job name) before now text next = Goes (job_lines schema (state_of w) name) w before now text next
Serves schema w Jobs before now text next = Goes (jobs_lines (state_of w)) w before now text next
Serves schema w Report before now text next = Reads w (report_line (state_of w)) before now text next
Serves schema w (Fail n) before now text next = Goes [] w before now text next
Serves schema w (Crash pick) before now text next = Crashes w before now text next
Serves schema w (Par quiet workers turns lanes) before now text next = Blocks schema w quiet lanes before now text next

-- all lines of commands, and the last world
unfoldable pub Script : Schema → World → List Command → ℕ → ℕ → List ℕ → World → Type 0
Script schema w [] before now text next = (now ≡ before) × (text ≡ []) × (next ≡ w)
Script schema w (command ∷ more) before now text next =
    (between : ℕ) × ((here : World) × ((line : List ℕ) × ((rest : List ℕ) ×
    (Serves schema w command before between line here × Script schema here more between now rest next × (text ≡ line ++ rest)))))

-- where want of memory may leave a command: the world as it was, with some of the entries of the command, or with one beside it

-- of a world that is up

abbrev pub HaltsCall : World → Call → World → Type 0
HaltsCall w asked next =
    (w.down ≡ false) × ((what : What) × ((answer w asked ≡ Ok what)
    × ((next ≡ with_entry w what (given_by asked)) ⊎ (next ≡ fallen w (Some (interrupted w what (given_by asked)))))))

abbrev pub HaltsWork : ℕ → World → World → Type 0
HaltsWork n w next =
    (w.down ≡ false) × ((made : ℕ) × ((here : World) × ((made ≤ n) × MakesSteps made w here
    × ((next ≡ here) ⊎ ((what : What) × ((next_step here ≡ Some what) × (next ≡ fallen here (Some (interrupted here what [])))))))))

abbrev pub Halts : Command → World → World → Type 0
Halts (Submit asked) w next = (next ≡ w) ⊎ HaltsCall w asked next
Halts (Work n) w next = (next ≡ w) ⊎ HaltsWork n w next
Halts (Par quiet workers turns lanes) w next = (next ≡ w) ⊎ LeavesLanes w lanes next
Halts other w next = next ≡ w
