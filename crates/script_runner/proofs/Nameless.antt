-- Lines that print no name.
use Rattle.std.proofs.Common.{◌≡◌, ℕ, List, [], refl}
use Rattle.delf_model.specs.declared.schema.Schema.{Schema}
use Rattle.delf_model.specs.declared.rows.ObjectRow.{ObjectRow}
use Rattle.delf_model.specs.declared.rows.Item.{Item}
use Rattle.delf_model.specs.declared.rows.Item.TheVariants.{Object, Edge}
use Rattle.delf_model.specs.declared.call.Cause.{Cause}
use Rattle.delf_model.specs.declared.call.Listed.{Listed}
use Rattle.delf_model.specs.declared.call.Refusal.{Refusal}
use Rattle.delf_model.specs.declared.call.Refusal.TheVariants.{Down, TooLong, Absent, Condemned, WrongEnd, NameTaken, EdgeTaken, NoEdge, NotDirect, JobTaken, NoJob, Pending, RestoredBefore, WindowOver, Full, OutOfMemory, DiskFault}
use Rattle.job_report.specs.Texts.{listed_text, refusal_text}
use Rattle.script_runner.specs.Lines.{refusal_name}
use Rattle.script_runner.specs.Serial.{item_name, listed_line}

by_row : (schema : Schema) (i : ℕ) (it : Item) (cause : Cause) (name : List ℕ) (job : ℕ) (row : ObjectRow) → it ≡ Object job row →
    listed_text (record { item = i; row = it; cause = cause }) name ≡ listed_text (record { item = i; row = it; cause = cause }) (item_name schema it)
unfolding listed_text
by_row schema i (Object job' row') cause name job row is = refl
by_row schema i (Edge job' row' from_birth to_birth) cause name job row is = absurd (cc is)

-- an object that was listed
pub listed_nameless : (schema : Schema) (listed : Listed) (name : List ℕ) (job : ℕ) (row : ObjectRow) → listed.row ≡ Object job row →
    listed_text listed name ≡ listed_line schema listed
listed_nameless schema listed name job row is = by_row schema listed.item listed.row listed.cause name job row is

-- every refusal but that of a wrong end
pub refusal_nameless : (schema : Schema) (refusal : Refusal) (len : ℕ) (name : List ℕ) → ((id kind : ℕ) → refusal ≡ WrongEnd id kind → ⊥) →
    refusal_text refusal len name ≡ refusal_text refusal len (refusal_name schema refusal)
unfolding refusal_text
refusal_nameless schema (Down at) len name other = refl
refusal_nameless schema (TooLong size) len name other = refl
refusal_nameless schema (Absent id) len name other = refl
refusal_nameless schema (Condemned id job) len name other = refl
refusal_nameless schema (WrongEnd id kind) len name other = absurd (other id kind refl)
refusal_nameless schema (NameTaken id birth) len name other = refl
refusal_nameless schema (EdgeTaken birth) len name other = refl
refusal_nameless schema NoEdge len name other = refl
refusal_nameless schema (NotDirect rule) len name other = refl
refusal_nameless schema (JobTaken number) len name other = refl
refusal_nameless schema NoJob len name other = refl
refusal_nameless schema (Pending owned) len name other = refl
refusal_nameless schema (RestoredBefore position) len name other = refl
refusal_nameless schema (WindowOver last) len name other = refl
refusal_nameless schema (Full used owed) len name other = refl
refusal_nameless schema OutOfMemory len name other = refl
refusal_nameless schema (DiskFault at) len name other = refl

-- what is printed while the store is down has no name
pub down_nameless : (len : ℕ) (name : List ℕ) → refusal_text (Down len) len name ≡ refusal_text (Down len) len []
unfolding refusal_text
down_nameless len name = refl
