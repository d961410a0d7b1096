-- What a line that reads payloads off the disk leaves of a book, and the line that a receipt gives.
use Rattle.std.specs.Prelude.{◌≡◌, ℕ, ◌≤◌, Bool, cond, List, [], Some, None, Result, Ok, Err, is_some, length}
use Rattle.delf_disk.specs.Areas.{Areas}
use Rattle.delf_disk.specs.declared.area.Order.{Order}
use Rattle.delf_disk.specs.Causes.{Rose}
use Rattle.delf_disk.specs.Plain.{Plain, SameKind}
use Rattle.delf_model.specs.declared.schema.Schema.{Schema}
use Rattle.delf_model.specs.declared.call.Call.{Call}
use Rattle.delf_model.specs.declared.call.Call.TheVariants as call
use Rattle.delf_model.specs.declared.call.Refusal.{Refusal}
use Rattle.delf_model.specs.declared.call.Refusal.TheVariants as refusal
use Rattle.delf_model.specs.Payloads.{Payloads}
use Rattle.store_laws.specs.Moves.{RestIn}
use Rattle.delf_book.specs.declared.answers.Receipt.{Receipt}
use Rattle.delf_book.specs.Books.{Booked, OnlyRig, Fell}
use Rattle.job_report.specs.Texts.{created_text, updated_text, linked_text, unlinked_text, deleting_text, restoring_text}
use Rattle.script_runner.specs.declared.faults.LineFault.{LineFault}
use Rattle.script_runner.specs.declared.faults.LineFault.TheVariants.{OutOfMemory, Failed}
use Rattle.script_runner.specs.Worlds.{World, world_of}
use Rattle.documents.specs.Names.{kind_name, edge_name}

-- what the disk holds stays
abbrev pub KeepsRest : {G R : Type 0} → (R → Areas → Type 0) → Booked G R → Booked G R → Type 0
KeepsRest may_leave old now =
    (e : Payloads) → RestIn old.rules old.history e (may_leave old.rig) → RestIn old.rules old.history e (may_leave now.rig)

-- the disk alone moved, and met no fault
pub record Moved {G R : Type 0} (told honest : R → Bool) (may_leave : R → Areas → Type 0) (order : R → Order) (orders faults : R → ℕ)
    (old now : Booked G R) : Type 0 where
  pub only : OnlyRig old now
  pub rest : Plain (told old.rig) (honest old.rig) → KeepsRest may_leave old now
  pub kind : SameKind told honest order orders old.rig now.rig
  pub count : faults now.rig ≡ faults old.rig

-- it met one, and the book fell
pub record Dropped {G R : Type 0} (told honest : R → Bool) (may_leave : R → Areas → Type 0) (order : R → Order) (orders faults : R → ℕ)
    (old now : Booked G R) (len : ℕ) : Type 0 where
  pub fell : Fell old now old.beside
  pub length_is : len ≡ length old.history
  pub rest : Plain (told old.rig) (honest old.rig) → KeepsRest may_leave old now
  pub kind : SameKind told honest order orders old.rig now.rig
  pub later : faults old.rig ≤ faults now.rig
  pub rose : Rose (faults old.rig) (faults now.rig)

-- what lines leave of a book by their answer
abbrev pub LineLeaves : {G R T : Type 0} → (R → Bool) → (R → Bool) → (R → Areas → Type 0) → (R → Order) → (R → ℕ) → (R → ℕ) → Booked G R → Booked G R →
    Result T LineFault → Type 0
LineLeaves told honest may_leave order orders faults old now (Ok x) = Moved told honest may_leave order orders faults old now
LineLeaves told honest may_leave order orders faults old now (Err OutOfMemory) = Moved told honest may_leave order orders faults old now
LineLeaves told honest may_leave order orders faults old now (Err (Failed len)) = Dropped told honest may_leave order orders faults old now len

-- what is told is what is to be said of each world that the disk holds
abbrev pub Tells : {G R : Type 0} → (R → Bool) → (R → Bool) → (R → Areas → Type 0) → Booked G R → (World → List ℕ) → List ℕ → Type 0
Tells told honest may_leave book said text =
    Plain (told book.rig) (honest book.rig) → (clock : ℕ) (e : Payloads) → RestIn book.rules book.history e (may_leave book.rig) →
    text ≡ said (world_of book clock e)

-- the name that the line of a refusal prints: that of the type that a wrong end has
abbrev pub refusal_name : Schema → Refusal → List ℕ
refusal_name schema (refusal.WrongEnd id kind) = kind_name schema kind
refusal_name schema other = []

-- the line of an accepted call by its receipt
abbrev pub receipt_text : Schema → Call → Receipt → List ℕ
receipt_text schema (call.Create kind id payload) receipt = created_text receipt.position id
receipt_text schema (call.Update id payload) receipt = updated_text receipt.position id
receipt_text schema (call.Link edge from to payload) receipt = linked_text receipt.position (edge_name schema edge) from to
receipt_text schema (call.Unlink edge from to name) receipt =
    unlinked_text receipt.position (edge_name schema edge) from to (cond (is_some receipt.started) (Some name) None)
receipt_text schema (call.Delete id name) receipt = deleting_text receipt.position id name
receipt_text schema (call.Restore name) receipt = restoring_text receipt.position name receipt.items
