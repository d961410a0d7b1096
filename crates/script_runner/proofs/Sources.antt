-- Bytes that were read, and the document that the source had left.
use Rattle.std.proofs.Common.{◌≡◌, ℕ, ◌<◌, Bool, IsTrue, List, [], ◌++◌, length, refl, sym, subst, inl, inr}
use Rattle.delf_disk.specs.declared.area.Area.{Area}
use Rattle.delf_disk.specs.declared.area.Order.{Order}
use Rattle.delf_model.specs.RuleSet.{RuleSet}
use Rattle.script_lang.specs.declared.fault.DocumentFault.{DocumentFault}
use Rattle.script_lang.specs.declared.fault.DocumentFault.TheVariants as told
use Rattle.script_runner.specs.declared.status.Status.{Status}
use Rattle.script_runner.specs.declared.status.Status.TheVariants.{Done, Usage, BadDocument, ReadFault, WriteFault, OutOfMemory, Down, BadStore}
use Rattle.documents.specs.declared.document.Document.{Document}
use Rattle.documents.specs.Documents.{IsDocument, IsFault, IsToldFault}
use Rattle.documents.proofs.ReadBytes.{all_read, lift_fault}
use Rattle.documents.specs.Documents.{OfDocument, HasFault}
use Rattle.script_runner.specs.Faults.{TellsFault, CutsFault, FaultText, FaultCause}
use Rattle.script_runner.specs.Outcomes.{BytesText, BytesCause, SourceText, SourceCause, ScriptCause, OrdersOf, OrdersMade, Untouched, ReadsAll}

pub lift_of : (blocks : Bool) (left read rest : List ℕ) (P : Document → Type 0) → left ≡ read ++ rest → (length read < 16777217 → rest ≡ []) → OfDocument blocks read P → OfDocument blocks left P
lift_of blocks left read rest P whole short of =
    subst (λ (t : List ℕ). OfDocument blocks t P) (sym (all_read left read rest whole short of.read.has.size)) of

pub lift_tells : (blocks : Bool) (left read rest : List ℕ) (line : ℕ) (before after : List ℕ) → left ≡ read ++ rest → (length read < 16777217 → rest ≡ []) → TellsFault blocks read line before after → TellsFault blocks left line before after
lift_tells blocks left read rest line before after whole short tells = record {
  fault = tells.fault;
  refused = lift_fault blocks left read rest tells.fault whole short tells.refused;
  line_is = tells.line_is;
  text = tells.text;
}

pub lift_cuts : (blocks : Bool) (left read rest before after : List ℕ) (done : ℕ) → left ≡ read ++ rest → (length read < 16777217 → rest ≡ []) → CutsFault blocks read before after done → CutsFault blocks left before after done
lift_cuts blocks left read rest before after done whole short cuts = record {
  fault = cuts.fault;
  refused = lift_fault blocks left read rest cuts.fault whole short cuts.refused;
  cut = cuts.cut;
}

pub lift_has : (blocks : Bool) (left read rest : List ℕ) (line : ℕ) → left ≡ read ++ rest → (length read < 16777217 → rest ≡ []) → HasFault blocks read line → HasFault blocks left line
lift_has blocks left read rest line whole short has = record {
  fault = has.fault;
  refused = lift_fault blocks left read rest has.fault whole short has.refused;
  line_is = has.line_is;
}

pub source_text : (blocks : Bool) (told : Bool) (left read rest : List ℕ) (same : Type 0) (runs : Document → Status → Type 0) (before after : List ℕ) (status : Status) → (IsTrue told → left ≡ read ++ rest) → (IsTrue told → length read < 16777217 → rest ≡ []) →
    BytesText blocks read same runs before after status → SourceText blocks told left same runs before after status
source_text blocks told left read rest same runs before after Done whole short text = λ t. lift_of blocks left read rest _ (whole t) (short t) text
source_text blocks told left read rest same runs before after (Down len) whole short text = λ t. lift_of blocks left read rest _ (whole t) (short t) text
source_text blocks told left read rest same runs before after (BadStore area at) whole short text = λ t. lift_of blocks left read rest _ (whole t) (short t) text
source_text blocks told left read rest same runs before after (BadDocument line) whole short text = λ t. lift_tells blocks left read rest line before after (whole t) (short t) text
source_text blocks told left read rest same runs before after Usage whole short text = text
source_text blocks told left read rest same runs before after ReadFault whole short text = absurd text
source_text blocks told left read rest same runs before after (WriteFault done) whole short text = λ t. elim text [
  | inl x ↦ inl (lift_cuts blocks left read rest before after done (whole t) (short t) x.0, x.1)
  | inr x ↦ inr (lift_of blocks left read rest _ (whole t) (short t) x)
]
source_text blocks told left read rest same runs before after (OutOfMemory done) whole short text = λ t. elim text [
  | inl x ↦ inl x
  | inr x ↦ inr (lift_of blocks left read rest _ (whole t) (short t) x)
]

pub source_cause : (blocks : Bool) (told : Bool) (left read rest : List ℕ) (read_rose write_rose rig_rose : Type 0) (bad : RuleSet → Area → ℕ → Type 0) (status : Status) → (IsTrue told → left ≡ read ++ rest) → (IsTrue told → length read < 16777217 → rest ≡ []) →
    BytesCause blocks read write_rose rig_rose bad status → SourceCause blocks told left read_rose write_rose rig_rose bad status
source_cause blocks told left read rest read_rose write_rose rig_rose bad Done whole short cause = λ t. lift_of blocks left read rest _ (whole t) (short t) cause
source_cause blocks told left read rest read_rose write_rose rig_rose bad Usage whole short cause = cause
source_cause blocks told left read rest read_rose write_rose rig_rose bad (BadDocument line) whole short cause = λ t. lift_has blocks left read rest line (whole t) (short t) cause
source_cause blocks told left read rest read_rose write_rose rig_rose bad ReadFault whole short cause = absurd cause
source_cause blocks told left read rest read_rose write_rose rig_rose bad (WriteFault done) whole short cause = cause
source_cause blocks told left read rest read_rose write_rose rig_rose bad (OutOfMemory done) whole short cause = cause
source_cause blocks told left read rest read_rose write_rose rig_rose bad (Down len) whole short cause = (cause.holds, λ t. lift_of blocks left read rest _ (whole t) (short t) cause)
source_cause blocks told left read rest read_rose write_rose rig_rose bad (BadStore area at) whole short cause = λ t. lift_of blocks left read rest _ (whole t) (short t) cause

pub source_orders : (blocks : Bool) (left read rest : List ℕ) (a : Order) (l : ℕ) (c : Order) (o : ℕ) (status : Status) → left ≡ read ++ rest → (length read < 16777217 → rest ≡ []) → OrdersOf blocks read a l c o status → OrdersOf blocks left a l c o status
source_orders blocks left read rest a l c o Done whole short orders = lift_of blocks left read rest _ whole short orders
source_orders blocks left read rest a l c o Usage whole short orders = elim orders [ inl x ↦ inl x | inr x ↦ inr (lift_of blocks left read rest _ whole short x) ]
source_orders blocks left read rest a l c o (BadDocument line) whole short orders = elim orders [ inl x ↦ inl x | inr x ↦ inr (lift_of blocks left read rest _ whole short x) ]
source_orders blocks left read rest a l c o ReadFault whole short orders = elim orders [ inl x ↦ inl x | inr x ↦ inr (lift_of blocks left read rest _ whole short x) ]
source_orders blocks left read rest a l c o (WriteFault done) whole short orders = elim orders [ inl x ↦ inl x | inr x ↦ inr (lift_of blocks left read rest _ whole short x) ]
source_orders blocks left read rest a l c o (OutOfMemory done) whole short orders = elim orders [ inl x ↦ inl x | inr x ↦ inr (lift_of blocks left read rest _ whole short x) ]
source_orders blocks left read rest a l c o (Down len) whole short orders = elim orders [ inl x ↦ inl x | inr x ↦ inr (lift_of blocks left read rest _ whole short x) ]
source_orders blocks left read rest a l c o (BadStore area at) whole short orders = elim orders [ inl x ↦ inl x | inr x ↦ inr (lift_of blocks left read rest _ whole short x) ]

-- a document that was accepted

pub bytes_text : (blocks : Bool) (bytes : List ℕ) (same : Type 0) (runs : Document → Status → Type 0) (before after : List ℕ) (status : Status) (write_rose rig_rose : Type 0) (bad : Area → ℕ → Type 0)
    (document : Document) → IsDocument blocks bytes document → ScriptCause write_rose rig_rose bad status → runs document status → BytesText blocks bytes same runs before after status
bytes_text blocks bytes same runs before after Done write_rose rig_rose bad document is cause text = record { document = document; read = is; holds = text }
bytes_text blocks bytes same runs before after Usage write_rose rig_rose bad document is cause text = cause
bytes_text blocks bytes same runs before after (BadDocument line) write_rose rig_rose bad document is cause text = absurd cause
bytes_text blocks bytes same runs before after ReadFault write_rose rig_rose bad document is cause text = cause
bytes_text blocks bytes same runs before after (WriteFault done) write_rose rig_rose bad document is cause text = inr (record { document = document; read = is; holds = text })
bytes_text blocks bytes same runs before after (OutOfMemory done) write_rose rig_rose bad document is cause text = inr (record { document = document; read = is; holds = text })
bytes_text blocks bytes same runs before after (Down len) write_rose rig_rose bad document is cause text = record { document = document; read = is; holds = text }
bytes_text blocks bytes same runs before after (BadStore area at) write_rose rig_rose bad document is cause text = record { document = document; read = is; holds = text }

pub bytes_cause : (blocks : Bool) (bytes : List ℕ) (write_rose rig_rose : Type 0) (bad : RuleSet → Area → ℕ → Type 0) (status : Status) (document : Document) → IsDocument blocks bytes document →
    ScriptCause write_rose rig_rose (bad document.rules) status → BytesCause blocks bytes write_rose rig_rose bad status
bytes_cause blocks bytes write_rose rig_rose bad Done document is cause = record { document = document; read = is; holds = tt }
bytes_cause blocks bytes write_rose rig_rose bad Usage document is cause = cause
bytes_cause blocks bytes write_rose rig_rose bad (BadDocument line) document is cause = absurd cause
bytes_cause blocks bytes write_rose rig_rose bad ReadFault document is cause = cause
bytes_cause blocks bytes write_rose rig_rose bad (WriteFault done) document is cause = cause
bytes_cause blocks bytes write_rose rig_rose bad (OutOfMemory done) document is cause = tt
bytes_cause blocks bytes write_rose rig_rose bad (Down len) document is cause = record { document = document; read = is; holds = cause }
bytes_cause blocks bytes write_rose rig_rose bad (BadStore area at) document is cause = record { document = document; read = is; holds = cause }

pub bytes_orders : (blocks : Bool) (bytes : List ℕ) (a : Order) (l : ℕ) (c : Order) (o : ℕ) (status : Status) (document : Document) → IsDocument blocks bytes document →
    OrdersMade document.commands a l c o status → OrdersOf blocks bytes a l c o status
bytes_orders blocks bytes a l c o Done document is made = record { document = document; read = is; holds = made }
bytes_orders blocks bytes a l c o Usage document is made = inr (record { document = document; read = is; holds = made })
bytes_orders blocks bytes a l c o (BadDocument line) document is made = inr (record { document = document; read = is; holds = made })
bytes_orders blocks bytes a l c o ReadFault document is made = inr (record { document = document; read = is; holds = made })
bytes_orders blocks bytes a l c o (WriteFault done) document is made = inr (record { document = document; read = is; holds = made })
bytes_orders blocks bytes a l c o (OutOfMemory done) document is made = inr (record { document = document; read = is; holds = made })
bytes_orders blocks bytes a l c o (Down len) document is made = inr (record { document = document; read = is; holds = made })
bytes_orders blocks bytes a l c o (BadStore area at) document is made = inr (record { document = document; read = is; holds = made })

pub untouched : (same write_rose rig_rose : Type 0) (bad : Area → ℕ → Type 0) (status : Status) → ScriptCause write_rose rig_rose bad status → Untouched same status
untouched same write_rose rig_rose bad Done cause = tt
untouched same write_rose rig_rose bad Usage cause = absurd cause
untouched same write_rose rig_rose bad (BadDocument line) cause = absurd cause
untouched same write_rose rig_rose bad ReadFault cause = absurd cause
untouched same write_rose rig_rose bad (WriteFault done) cause = tt
untouched same write_rose rig_rose bad (OutOfMemory done) cause = tt
untouched same write_rose rig_rose bad (Down len) cause = tt
untouched same write_rose rig_rose bad (BadStore area at) cause = tt

-- a fault that was told

pub refused_by : (blocks : Bool) (bytes : List ℕ) (fault : DocumentFault) (line : ℕ) (text : List ℕ) → fault ≡ told.Bad line text → IsToldFault blocks bytes fault → IsFault blocks bytes (record { line = line; text = text })
refused_by blocks bytes fault line text is refusal = subst (IsToldFault blocks bytes) is refusal

pub fault_text_of : (blocks : Bool) (bytes : List ℕ) (fault : DocumentFault) (same : Type 0) (runs : Document → Status → Type 0) (before after : List ℕ) (status : Status) → IsToldFault blocks bytes fault → same →
    FaultText fault before after status → BytesText blocks bytes same runs before after status
fault_text_of blocks bytes fault same runs before after Done refusal is text = absurd text
fault_text_of blocks bytes fault same runs before after Usage refusal is text = text
fault_text_of blocks bytes fault same runs before after (BadDocument line) refusal is text = record {
  fault = record { line = line; text = text.0 };
  refused = refused_by blocks bytes fault line text.0 text.1 refusal;
  line_is = refl;
  text = text.2;
}
fault_text_of blocks bytes fault same runs before after ReadFault refusal is text = text
fault_text_of blocks bytes fault same runs before after (WriteFault done) refusal is text = inl (
  record {
    fault = record { line = text.0; text = text.1.0 };
    refused = refused_by blocks bytes fault text.0 text.1.0 text.1.1 refusal;
    cut = text.1.2;
  },
  is,
)
fault_text_of blocks bytes fault same runs before after (OutOfMemory done) refusal is text = inl (text.0, text.1, is)
fault_text_of blocks bytes fault same runs before after (Down len) refusal is text = absurd text
fault_text_of blocks bytes fault same runs before after (BadStore area at) refusal is text = absurd text

pub fault_cause_of : (blocks : Bool) (bytes : List ℕ) (fault : DocumentFault) (write_rose rig_rose : Type 0) (bad : RuleSet → Area → ℕ → Type 0) (status : Status) → IsToldFault blocks bytes fault →
    FaultCause fault write_rose status → BytesCause blocks bytes write_rose rig_rose bad status
fault_cause_of blocks bytes fault write_rose rig_rose bad Done refusal cause = absurd cause
fault_cause_of blocks bytes fault write_rose rig_rose bad Usage refusal cause = cause
fault_cause_of blocks bytes fault write_rose rig_rose bad (BadDocument line) refusal cause = record { fault = record { line = line; text = cause.0 }; refused = refused_by blocks bytes fault line cause.0 cause.1 refusal; line_is = refl }
fault_cause_of blocks bytes fault write_rose rig_rose bad ReadFault refusal cause = cause
fault_cause_of blocks bytes fault write_rose rig_rose bad (WriteFault done) refusal cause = cause.1
fault_cause_of blocks bytes fault write_rose rig_rose bad (OutOfMemory done) refusal cause = tt
fault_cause_of blocks bytes fault write_rose rig_rose bad (Down len) refusal cause = absurd cause
fault_cause_of blocks bytes fault write_rose rig_rose bad (BadStore area at) refusal cause = absurd cause

pub fault_orders : (blocks : Bool) (bytes : List ℕ) (fault : DocumentFault) (a : Order) (l : ℕ) (write_rose : Type 0) (status : Status) → FaultCause fault write_rose status → OrdersOf blocks bytes a l a l status
fault_orders blocks bytes fault a l write_rose Done cause = absurd cause
fault_orders blocks bytes fault a l write_rose Usage cause = inl (refl, refl)
fault_orders blocks bytes fault a l write_rose (BadDocument line) cause = inl (refl, refl)
fault_orders blocks bytes fault a l write_rose ReadFault cause = inl (refl, refl)
fault_orders blocks bytes fault a l write_rose (WriteFault done) cause = inl (refl, refl)
fault_orders blocks bytes fault a l write_rose (OutOfMemory done) cause = inl (refl, refl)
fault_orders blocks bytes fault a l write_rose (Down len) cause = inl (refl, refl)
fault_orders blocks bytes fault a l write_rose (BadStore area at) cause = inl (refl, refl)

pub reads_all : (left read rest : List ℕ) (status : Status) → left ≡ read ++ rest → (length read < 16777217 → rest ≡ []) → ReadsAll left rest status
reads_all left read rest Done whole short = (read, (whole, short))
reads_all left read rest Usage whole short = (read, (whole, short))
reads_all left read rest (BadDocument line) whole short = (read, (whole, short))
reads_all left read rest ReadFault whole short = tt
reads_all left read rest (WriteFault done) whole short = (read, (whole, short))
reads_all left read rest (OutOfMemory done) whole short = tt
reads_all left read rest (Down len) whole short = (read, (whole, short))
reads_all left read rest (BadStore area at) whole short = (read, (whole, short))
