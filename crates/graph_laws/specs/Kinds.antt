-- Why an object is owned, and what follows for types that are never deleted, or deleted by their own call alone.
use Rattle.std.specs.Prelude.{◌≡◌, ◌<◌, ◌≤◌, ℕ, Bool, true, false, List, Option, Some, None, length, slice_get, take}
use Rattle.delf_model.specs.declared.rows.ObjectRow.{ObjectRow}
use Rattle.delf_model.specs.declared.rows.Item.TheVariants as item
use Rattle.delf_model.specs.declared.schema.ObjectRule.{ObjectRule}
use Rattle.delf_model.specs.declared.schema.ObjectRule.TheVariants.{DirectlyOnly, ShortTtl, NotDeleted}
use Rattle.delf_model.specs.declared.entry.Entry.{Entry}
use Rattle.delf_model.specs.declared.entry.Tag.{Tag}
use Rattle.delf_model.specs.declared.entry.What.TheVariants.{Unlink, Delete, Expire, Cut, Erase}
use Rattle.delf_model.specs.RuleSet.{RuleSet, is_refcount}
use Rattle.delf_model.specs.Checked.{takes, may_condemn}
use Rattle.delf_model.specs.Graph.{object_at, stands}
use Rattle.delf_model.specs.State.{Logged, owner}
use Rattle.delf_model.specs.Step.{after}
use Rattle.delf_model.specs.Reply.{is_direct}

-- an object of this id, type and due moment belongs to the job: the job's entry names it as the root, or the job cut an
-- edge into it
pub data WhyOwned (rules : RuleSet) (history : List Entry) (job id kind due : ℕ) : Type 0 where
  -- a call deleted it, and its type is one that calls may delete
  ByDelete : (e : Entry) (tag : Tag) (name : ℕ) (rule : ObjectRule) → slice_get history job ≡ Some e → e.what ≡ Delete tag id name →
      slice_get rules.objects kind ≡ Some rule → is_direct rule ≡ true → WhyOwned rules history job id kind due
  -- it was due, and its type is one that expires
  ByExpiry : (e : Entry) (seconds : ℕ) → slice_get history job ≡ Some e → e.what ≡ Expire id →
      slice_get rules.objects kind ≡ Some (ShortTtl seconds) → 0 < due → due ≤ e.moment → WhyOwned rules history job id kind due
  -- a call took the last reference to it, and its type is one that edges may condemn
  ByUnlink : (e : Entry) (tag : Tag) (edge from name : ℕ) → slice_get history job ≡ Some e → e.what ≡ Unlink tag edge from id name →
      is_refcount rules edge ≡ true → takes rules kind ≡ true → WhyOwned rules history job id kind due
  -- the job cut an edge into it whose type condemns, and its own type is one that edges may condemn
  ThroughEdge : (p : ℕ) (e : Entry) (edge from : ℕ) → slice_get history p ≡ Some e → e.what ≡ Cut job edge from id →
      may_condemn rules edge ≡ true → takes rules kind ≡ true → WhyOwned rules history job id kind due

-- each owned object is the root of its job, or of a type that edges may condemn
pub record OwnedForCause (rules : RuleSet) (history : List Entry) : Type 0 where
  pub why : (id job : ℕ) (row : ObjectRow) → object_at (after rules history).graph id ≡ Some row →
      owner (after rules history) id ≡ Some job → WhyOwned rules history job id row.kind row.due

abbrev pub IsNotDeleted : RuleSet → ObjectRow → Type 0
IsNotDeleted rules row = slice_get rules.objects row.kind ≡ Some NotDeleted

-- an object of a not_deleted type is never condemned and never erased: once it stands, it stands for good
pub record NotDeletedStays (rules : RuleSet) (history : List Entry) : Type 0 where
  pub never_owned : (p id : ℕ) (row : ObjectRow) → object_at (after rules (take p history)).graph id ≡ Some row → IsNotDeleted rules row →
      owner (after rules (take p history)) id ≡ None
  pub never_erased : (p job id : ℕ) (e : Entry) (row : ObjectRow) → slice_get history p ≡ Some e → e.what ≡ Erase job id →
      object_at (after rules (take p history)).graph id ≡ Some row → IsNotDeleted rules row → ⊥
  pub stays : (p id : ℕ) (row : ObjectRow) → object_at (after rules (take p history)).graph id ≡ Some row → IsNotDeleted rules row →
      stands (after rules history).graph id row.birth ≡ true

-- an object of a directly_only type is owned only by the job that a delete call of it started
abbrev pub DirectlyOnlyIsRoot : RuleSet → List Entry → Type 0
DirectlyOnlyIsRoot rules history =
    (id job : ℕ) (row : ObjectRow) → object_at (after rules history).graph id ≡ Some row →
    slice_get rules.objects row.kind ≡ Some DirectlyOnly → owner (after rules history) id ≡ Some job →
    (e : Entry) × (tag : Tag) × (name : ℕ) × (slice_get history job ≡ Some e) × (e.what ≡ Delete tag id name)
