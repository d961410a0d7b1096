-- What every legal history is: what leaves and by whom, what a done job took, what a restore gives back, the room.
use Rattle.std.specs.Prelude.{◌≡◌, ℕ, ◌+◌, ◌<◌, ◌≤◌, Bool, true, false, ◌||◌, nat_eq, List, Option, Some, None, is_some, length, slice_get, take, count_by}
use Rattle.delf_model.specs.declared.rows.EdgeKey.{EdgeKey}
use Rattle.delf_model.specs.declared.rows.Item.{Item}
use Rattle.delf_model.specs.declared.rows.Item.TheVariants as item
use Rattle.delf_model.specs.declared.entry.Entry.{Entry}
use Rattle.delf_model.specs.declared.entry.Tag.{Tag}
use Rattle.delf_model.specs.declared.entry.What.{What}
use Rattle.delf_model.specs.declared.entry.What.TheVariants.{Unlink, Delete, Restore, Cut, Erase, Put}
use Rattle.delf_model.specs.RuleSet.{RuleSet}
use Rattle.delf_model.specs.Graph.{Graph, object_at, edge_at, edge_stands, edge_stands_born, stands, touches}
use Rattle.delf_model.specs.State.{State, Logged, Handled, owner, owned, left, is_owned_by, job_of, is_restored, job_row}
use Rattle.delf_model.specs.Step.{after}
use Rattle.delf_model.specs.Puts.{judged}
use Rattle.delf_model.specs.Legal.{EachStep, is_end_item}
use Rattle.delf_model.specs.Room.{room, room_limit}
use Rattle.delf_model.specs.Order.{is_step, is_legal_step, first_step}
use Rattle.delf_model.specs.Report.{was_listed}
use Rattle.delf_model.specs.Payloads.{is_needed, payload_at, payloads_along, AreGiven}
use Rattle.delf_model.specs.Closure.{has, Closure, Calm, has_erased, has_cut, items_of_job, union, root_of, is_step_of}

-- what leaves the graph

-- an object that leaves has an owner, and the entry is the erasure by that owner
abbrev pub ObjectsLeave : State → What → State → Type 0
ObjectsLeave before what now =
    (id : ℕ) (birth : ℕ) → stands before.graph id birth ≡ true → stands now.graph id birth ≡ false →
    (job : ℕ) × (owner before id ≡ Some job) × (what ≡ Erase job id)

-- an entry that may take the edge: an unlink of it, or a cut of it by a job that owns an end
pub data TakesEdgeAway (s : State) (key : EdgeKey) (what : What) : Type 0 where
  ByUnlink : (tag : Tag) → (name : ℕ) → what ≡ Unlink tag key.edge key.from key.to name → TakesEdgeAway s key what
  ByCut : (job : ℕ) → what ≡ Cut job key.edge key.from key.to →
      (is_owned_by s job key.from || is_owned_by s job key.to) ≡ true → TakesEdgeAway s key what

-- an edge, meant by its key and birth, that leaves is unlinked, or cut by a job that owns an end of it
abbrev pub EdgesLeave : State → What → State → Type 0
EdgesLeave before what now =
    (key : EdgeKey) (birth : ℕ) → edge_stands_born before.graph key birth ≡ true → edge_stands_born now.graph key birth ≡ false →
    TakesEdgeAway before key what

pub record LeavesByOwner (rules : RuleSet) (history : List Entry) : Type 0 where
  pub objects : EachStep ObjectsLeave rules history
  pub edges : EachStep EdgesLeave rules history

-- what a done job erased

-- the object with this id and birth had this owner at some length of the history
pub record Reached (rules : RuleSet) (history : List Entry) (job id birth : ℕ) : Type 0 where
  pub at : ℕ
  pub within : at ≤ length history
  pub stood : stands (after rules (take at history)).graph id birth ≡ true
  pub owned : owner (after rules (take at history)) id ≡ Some job

abbrev pub is_erasure_of : ℕ → ℕ → ℕ → Logged → Bool
is_erasure_of job id birth logged = is_end_item job id birth logged.item

-- how often the job logged the object with this id and birth
abbrev pub erasures : State → ℕ → ℕ → ℕ → ℕ
erasures s job id birth = count_by (is_erasure_of job id birth) s.items

-- a job that owns nothing has erased exactly what it reached, each object once, its root among them
pub record ErasedReached (rules : RuleSet) (history : List Entry) (job : ℕ) : Type 0 where
  pub all : (id birth : ℕ) → Reached rules history job id birth → erasures (after rules history) job id birth ≡ 1
  pub only : (id birth : ℕ) → 0 < erasures (after rules history) job id birth → Reached rules history job id birth
  pub root : (id : ℕ) → root_of (after rules history) job ≡ Some id → (birth : ℕ) × Reached rules history job id birth

-- and it owns nothing from then on
pub record DoneErasesReached (rules : RuleSet) (history : List Entry) : Type 0 where
  pub reached : (job : ℕ) → is_some (job_row (after rules history).jobs job) ≡ true →
      owned (after rules history) job ≡ 0 → ErasedReached rules history job
  pub for_good : (job p : ℕ) → p ≤ length history →
      is_some (job_row (after rules (take p history)).jobs job) ≡ true → owned (after rules (take p history)) job ≡ 0 →
      (id : ℕ) → is_owned_by (after rules history) job id ≡ false

-- the order of steps does not matter

-- an item is the row that the graph had, with the births that the ends had there
abbrev pub IsRowOf : Graph → Item → Type 0
IsRowOf g (item.Object job row) = object_at g row.id ≡ Some row
IsRowOf g (item.Edge job row from_birth to_birth) =
    (edge_at g row.key ≡ Some row) × (stands g row.key.from from_birth ≡ true) × (stands g row.key.to to_birth ≡ true)

-- the job erased exactly the closure of its root in this graph, and cut exactly the edges that touch it
pub record TookClosure (rules : RuleSet) (g : Graph) (root job : ℕ) (s : State) : Type 0 where
  pub erased : (id : ℕ) → has_erased s job id ≡ true → Closure rules g root id
  pub all : (id : ℕ) → Closure rules g root id → has_erased s job id ≡ true
  pub cut : (key : EdgeKey) → has_cut s job key ≡ true →
      (edge_stands g key ≡ true) × ((id : ℕ) × Closure rules g root id × (touches id key ≡ true))
  pub all_cut : (key : EdgeKey) (id : ℕ) → edge_stands g key ≡ true → Closure rules g root id → touches id key ≡ true →
      has_cut s job key ≡ true
  pub rows : (i : ℕ) (logged : Logged) → slice_get s.items i ≡ Some logged → job_of logged.item ≡ job →
      IsRowOf g logged.item

-- where a part is calm for a start and the job owns nothing at its end, the job took the closure of its root
pub record OrderDoesNotMatter (rules : RuleSet) (history : List Entry) : Type 0 where
  pub closure : (job root q : ℕ) (ids : List ℕ) → Calm rules history job root q ids →
      owned (after rules (take q history)) job ≡ 0 →
      TookClosure rules (after rules (take (job + 1) history)).graph root job (after rules history)

-- each handled item has one put

pub record HasOnePut (rules : RuleSet) (history : List Entry) (i : ℕ) (logged : Logged) (how : Handled) : Type 0 where
  pub entry : Entry
  pub there : slice_get history how.put ≡ Some entry
  pub puts : entry.what ≡ Put (job_of logged.item) i
  pub judgement : how.cause ≡ judged (after rules (take how.put history)) logged.item
  pub only : (p job : ℕ) (e : Entry) → slice_get history p ≡ Some e → e.what ≡ Put job i → p ≡ how.put

-- the outcome of a handled item is the judgement at its put; a restored job with no unhandled item has all handled
pub record PutsAreJudged (rules : RuleSet) (history : List Entry) : Type 0 where
  pub one : (i : ℕ) (logged : Logged) (how : Handled) → slice_get (after rules history).items i ≡ Some logged →
      logged.handled ≡ Some how → HasOnePut rules history i logged how
  pub handled : (job : ℕ) → is_restored (after rules history).jobs job ≡ true → left (after rules history) job ≡ 0 →
      (i : ℕ) (logged : Logged) → slice_get (after rules history).items i ≡ Some logged → job_of logged.item ≡ job →
      is_some logged.handled ≡ true

-- a restore is a union

abbrev pub is_put_by : ℕ → What → Bool
is_put_by job (Put other i) = nat_eq other job
is_put_by job what = false

abbrev pub object_id_of : Item → Option ℕ
object_id_of (item.Object job row) = Some row.id
object_id_of (item.Edge job row from_birth to_birth) = None

-- no two of these items are objects of one id
abbrev pub DistinctIds : List Item → Type 0
DistinctIds items =
    (i j id : ℕ) (a b : Item) → slice_get items i ≡ Some a → slice_get items j ≡ Some b →
    object_id_of a ≡ Some id → object_id_of b ≡ Some id → i ≡ j

-- the job was restored by the entry at r, only its puts stand from there up to the length q, it has no unhandled item
-- there, and no two of its object items have one id
pub record OnlyPuts (rules : RuleSet) (history : List Entry) (job r q : ℕ) : Type 0 where
  pub later : r < q
  pub within : q ≤ length history
  pub entry : Entry
  pub there : slice_get history r ≡ Some entry
  pub tag : Tag
  pub restores : entry.what ≡ Restore tag job
  pub puts : (p : ℕ) (e : Entry) → r < p → p < q → slice_get history p ≡ Some e → is_put_by job e.what ≡ true
  pub handled : left (after rules (take q history)) job ≡ 0
  pub distinct : DistinctIds (items_of_job job (after rules (take q history)).items)

pub record RestoreIsUnion (rules : RuleSet) (history : List Entry) : Type 0 where
  pub union_is : (job r q : ℕ) → OnlyPuts rules history job r q →
      (after rules (take q history)).graph ≡
      union (after rules (take (r + 1) history)) (items_of_job job (after rules (take q history)).items)

-- a restore is the inverse of a deletion

-- every item of the job is handled
abbrev pub AllHandled : State → ℕ → Type 0
AllHandled s job =
    (i : ℕ) (logged : Logged) → slice_get s.items i ≡ Some logged → job_of logged.item ≡ job →
    is_some logged.handled ≡ true

abbrev pub is_own_entry : ℕ → What → Bool
is_own_entry job (Restore tag other) = nat_eq other job
is_own_entry job what = is_step_of job what

-- none of the job's items is listed, and the rows of these ids are those of the graph before
pub record PutBack (g now : Graph) (s : State) (job : ℕ) (ids : List ℕ) : Type 0 where
  pub unlisted : (i : ℕ) (logged : Logged) → slice_get s.items i ≡ Some logged → job_of logged.item ≡ job →
      was_listed logged.handled ≡ false
  pub objects : (id : ℕ) → has ids id ≡ true → object_at now id ≡ object_at g id
  pub edges : (key : EdgeKey) (id : ℕ) → has ids id ≡ true → touches id key ≡ true → edge_at now key ≡ edge_at g key

-- where a part is calm and all items of the job are handled at its end, everything was put back; where besides the
-- job's own entries alone stand in the part, graph and needed positions are those after the start
pub record Inverse (rules : RuleSet) (history : List Entry) : Type 0 where
  pub rows : (job root q : ℕ) (ids : List ℕ) → Calm rules history job root q ids →
      AllHandled (after rules (take q history)) job →
      PutBack (after rules (take (job + 1) history)).graph (after rules (take q history)).graph
      (after rules (take q history)) job ids
  pub alone : (job root q : ℕ) (ids : List ℕ) → Calm rules history job root q ids →
      AllHandled (after rules (take q history)) job →
      ((p : ℕ) (e : Entry) → job < p → p < q → slice_get history p ≡ Some e → is_own_entry job e.what ≡ true) →
      ((after rules (take q history)).graph ≡ (after rules (take (job + 1) history)).graph) ×
      ((p : ℕ) → is_needed (after rules (take q history)) p ≡ is_needed (after rules (take (job + 1) history)) p)

-- the payloads, whatever bytes the calls give and whatever the digest is

-- along the history the payloads are those that calls gave; and where a part is calm, all items of the job are handled
-- at its end and the job's own entries alone stand in it, each payload is that of right after the start
pub record PayloadsAreGiven (rules : RuleSet) (history : List Entry) : Type 0 where
  pub along : (digest : List ℕ → List ℕ) (given : List (List ℕ)) →
      AreGiven digest given (after rules history) (payloads_along digest given rules history)
  pub back : (digest : List ℕ → List ℕ) (given : List (List ℕ)) (job root q : ℕ) (ids : List ℕ) →
      Calm rules history job root q ids → AllHandled (after rules (take q history)) job →
      ((p : ℕ) (e : Entry) → job < p → p < q → slice_get history p ≡ Some e → is_own_entry job e.what ≡ true) →
      (p : ℕ) → is_needed (after rules (take q history)) p ≡ true →
      payload_at (payloads_along digest given rules (take q history)) p ≡
      payload_at (payloads_along digest given rules (take (job + 1) history)) p

-- the room

-- an unlink, a delete or a step
abbrev pub never_raises : What → Bool
never_raises (Unlink tag edge from to name) = true
never_raises (Delete tag id name) = true
never_raises what = is_step what

abbrev pub RaisesNot : State → What → State → Type 0
RaisesNot before what now = never_raises what ≡ true → room now ≤ room before

-- the room is never exceeded, and no unlink, delete or step raises it
pub record KeepsRoom (rules : RuleSet) (history : List Entry) : Type 0 where
  pub within : (p : ℕ) → p ≤ length history → room (after rules (take p history)) ≤ room_limit
  pub quiet : EachStep RaisesNot rules history

-- the serial step

-- the first step of the order is legal, and where there is none no step is legal
pub record FirstIsLegal (s : State) (moment : ℕ) : Type 0 where
  pub legal : (what : What) → first_step s moment ≡ Some what → is_legal_step s moment what ≡ true
  pub none : first_step s moment ≡ None → (what : What) → is_legal_step s moment what ≡ false

-- what every legal history is
pub record Sound (rules : RuleSet) (history : List Entry) : Type 0 where
  pub leaves : LeavesByOwner rules history
  pub erased : DoneErasesReached rules history
  pub closure : OrderDoesNotMatter rules history
  pub puts : PutsAreJudged rules history
  pub joined : RestoreIsUnion rules history
  pub inverse : Inverse rules history
  pub given : PayloadsAreGiven rules history
  pub room_kept : KeepsRoom rules history
