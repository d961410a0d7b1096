-- The type of a wrong end that a refusal tells is one of the rules.
use Rattle.std.proofs.Common.{◌≡◌, ℕ, Bool, true, false, cond, Option, Some, None, List, [], ◌∷◌, length, refl}
use Rattle.std.specs.Prelude.{IfErr, is_some, slice_get, nat_eq, nat_lt}
use Rattle.std.specs.List.{AllByRecursion}
use Rattle.delf_model.specs.declared.rows.ObjectRow.{ObjectRow}
use Rattle.delf_model.specs.declared.rows.EdgeRow.{EdgeRow}
use Rattle.delf_model.specs.declared.schema.EdgeShape.{EdgeShape}
use Rattle.delf_model.specs.declared.schema.ObjectRule.{ObjectRule}
use Rattle.delf_model.specs.declared.call.Call.{Call}
use Rattle.delf_model.specs.declared.call.Refusal.{Refusal}
use Rattle.delf_model.specs.declared.call.Refusal.TheVariants.{TooLong, Absent, WrongEnd, NoEdge, NotDirect, JobTaken, NoJob, Pending, WindowOver, Full}
use Rattle.delf_model.specs.declared.entry.What.{What}
use Rattle.delf_model.specs.declared.entry.What.TheVariants.{Create, Update, Link, Unlink, Delete, Restore, Expire, Cut, Erase, Put, Purge}
use Rattle.delf_model.specs.Graph.{has_id, object_at, edge_at, edge_stands}
use Rattle.delf_model.specs.State.{State, JobRow, owner, owned, job_row}
use Rattle.delf_model.specs.Owners.{unlink_start, key_of}
use Rattle.delf_model.specs.Reply.{refusals, refused, first_refusal, answered, answered_by, asked, reply, next_tag, too_long, absent, condemned, condemned_by, kind_differs, wrong_source, wrong_target, name_taken_by, edge_taken_by, not_direct_row, not_direct_rule, is_direct, job_taken, restored_before, restored_by, window_over, window_end, full}
use Rattle.delf_model.specs.Room.{payload_limit}
use Rattle.script_runner.specs.Names.{IsNumberedObject, IsNumberedRefusal}
use Rattle.script_runner.proofs.Numbered.{all_found}

abbrev IfNumbered : ℕ → Option Refusal → Type 0
IfNumbered count None = Unit {0}
IfNumbered count (Some refusal) = IsNumberedRefusal count refusal

first_numbered : (count : ℕ) (xs : List (Option Refusal)) → AllByRecursion (IfNumbered count) xs → IfNumbered count (first_refusal xs)
first_numbered count [] all = tt
first_numbered count (None ∷ xs) all = first_numbered count xs all.1
first_numbered count (Some refusal ∷ xs) all = all.0

either : (count : ℕ) (b : Bool) (x y : Option Refusal) → IfNumbered count x → IfNumbered count y → IfNumbered count (cond b x y)
either count true x y one other = one
either count false x y one other = other

by_owner : (count id : ℕ) (o : Option ℕ) → IfNumbered count (condemned_by id o)
by_owner count id None = tt
by_owner count id (Some job) = tt

differs : (s : State) (id kind : ℕ) (o : Option ObjectRow) → object_at s.graph id ≡ o → AllByRecursion (IsNumberedObject s.rules) s.graph.objects →
    IfNumbered (length s.rules.objects) (kind_differs id kind o)
differs s id kind None is all = tt
differs s id kind (Some row) is all =
    either (length s.rules.objects) (nat_eq row.kind kind) None (Some (WrongEnd id row.kind)) tt (all_found (IsNumberedObject s.rules) (has_id id) s.graph.objects row all is)

source : (s : State) (id : ℕ) (o : Option EdgeShape) → AllByRecursion (IsNumberedObject s.rules) s.graph.objects → IfNumbered (length s.rules.objects) (wrong_source s id o)
source s id None all = tt
source s id (Some shape) all = differs s id shape.from (object_at s.graph id) refl all

target : (s : State) (id : ℕ) (o : Option EdgeShape) → AllByRecursion (IsNumberedObject s.rules) s.graph.objects → IfNumbered (length s.rules.objects) (wrong_target s id o)
target s id None all = tt
target s id (Some shape) all = differs s id shape.to (object_at s.graph id) refl all

by_object : (count : ℕ) (o : Option ObjectRow) → IfNumbered count (name_taken_by o)
by_object count None = tt
by_object count (Some row) = tt

by_edge : (count : ℕ) (o : Option EdgeRow) → IfNumbered count (edge_taken_by o)
by_edge count None = tt
by_edge count (Some row) = tt

by_rule : (count : ℕ) (o : Option ObjectRule) → IfNumbered count (not_direct_rule o)
by_rule count None = tt
by_rule count (Some rule) = either count (is_direct rule) None (Some (NotDirect rule)) tt tt

by_row : (s : State) (o : Option ObjectRow) → IfNumbered (length s.rules.objects) (not_direct_row s.rules o)
by_row s None = tt
by_row s (Some row) = by_rule (length s.rules.objects) (slice_get s.rules.objects row.kind)

by_position : (count : ℕ) (o : Option ℕ) → IfNumbered count (restored_by o)
by_position count None = tt
by_position count (Some position) = tt

by_restored : (count : ℕ) (o : Option JobRow) → IfNumbered count (restored_before o)
by_restored count None = tt
by_restored count (Some row) = by_position count row.restored

by_window : (s : State) (moment : ℕ) (o : Option JobRow) → IfNumbered (length s.rules.objects) (window_over s moment o)
by_window s moment None = tt
by_window s moment (Some row) = either (length s.rules.objects) _ (Some (WindowOver (window_end s row))) None tt tt

long : (s : State) (size : ℕ) → IfNumbered (length s.rules.objects) (too_long size)
long s size = either (length s.rules.objects) (nat_lt payload_limit size) (Some (TooLong size)) None tt tt

gone : (s : State) (id : ℕ) → IfNumbered (length s.rules.objects) (absent s id)
gone s id = either (length s.rules.objects) (is_some (object_at s.graph id)) None (Some (Absent id)) tt tt

held : (s : State) (id : ℕ) → IfNumbered (length s.rules.objects) (condemned s id)
held s id = by_owner (length s.rules.objects) id (owner s id)

roomless : (s : State) (moment : ℕ) (what : What) → IfNumbered (length s.rules.objects) (full s moment what)
roomless s moment what = either (length s.rules.objects) _ (Some (Full _ _)) None tt tt

taken : (s : State) (name : ℕ) → IfNumbered (length s.rules.objects) (job_taken s name)
taken s name = either (length s.rules.objects) _ (Some (JobTaken name)) None tt tt

each_numbered : (s : State) (moment : ℕ) (what : What) → AllByRecursion (IsNumberedObject s.rules) s.graph.objects →
    AllByRecursion (IfNumbered (length s.rules.objects)) (refusals s moment what)
each_numbered s moment (Create tag kind id size) all =
    (long s size, (by_object (length s.rules.objects) (object_at s.graph id), (roomless s moment (Create tag kind id size), tt)))
each_numbered s moment (Update tag id size) all =
    (long s size, (gone s id, (held s id, (roomless s moment (Update tag id size), tt))))
each_numbered s moment (Link tag edge from to size) all = (
  long s size,
  (
    gone s from,
    (
      gone s to,
      (
        held s from,
        (
          held s to,
          (
            source s from (slice_get s.rules.edges edge) all,
            (
              target s to (slice_get s.rules.edges edge) all,
              (by_edge (length s.rules.objects) (edge_at s.graph (key_of edge from to)), (roomless s moment (Link tag edge from to size), tt)),
            ),
          ),
        ),
      ),
    ),
  ),
)
each_numbered s moment (Unlink tag edge from to name) all = (
  gone s from,
  (
    gone s to,
    (
      held s from,
      (
        held s to,
        (
          either (length s.rules.objects) (edge_stands s.graph (key_of edge from to)) None (Some NoEdge) tt tt,
          (either (length s.rules.objects) (is_some (unlink_start s edge from to name)) (job_taken s name) None (taken s name) tt, tt),
        ),
      ),
    ),
  ),
)
each_numbered s moment (Delete tag id name) all =
    (gone s id, (held s id, (by_row s (object_at s.graph id), (taken s name, tt))))
each_numbered s moment (Restore tag job) all = (
  either (length s.rules.objects) (is_some (job_row s.jobs job)) None (Some NoJob) tt tt,
  (
    either (length s.rules.objects) (nat_eq (owned s job) 0) None (Some (Pending (owned s job))) tt tt,
    (by_restored (length s.rules.objects) (job_row s.jobs job), (by_window s moment (job_row s.jobs job), (roomless s moment (Restore tag job), tt))),
  ),
)
each_numbered s moment (Expire id) all = tt
each_numbered s moment (Cut job edge from to) all = tt
each_numbered s moment (Erase job id) all = tt
each_numbered s moment (Put job i) all = tt
each_numbered s moment (Purge job) all = tt

by_refusal : (count : ℕ) (what : What) (o : Option Refusal) → IfNumbered count o → IfErr (answered_by what o) (IsNumberedRefusal count)
by_refusal count what None is = tt
by_refusal count what (Some refusal) is = is

by_asked : (s : State) (moment : ℕ) (o : Option What) → AllByRecursion (IsNumberedObject s.rules) s.graph.objects →
    IfErr (answered s moment o) (IsNumberedRefusal (length s.rules.objects))
by_asked s moment None all = tt
by_asked s moment (Some what) all =
    by_refusal (length s.rules.objects) what (refused s moment what) (first_numbered (length s.rules.objects) (refusals s moment what) (each_numbered s moment what all))

pub reply_numbered : (s : State) (moment seat : ℕ) (call : Call) → AllByRecursion (IsNumberedObject s.rules) s.graph.objects →
    IfErr (reply s moment seat call) (IsNumberedRefusal (length s.rules.objects))
reply_numbered s moment seat call all = by_asked s moment (asked s (next_tag s seat) call) all
