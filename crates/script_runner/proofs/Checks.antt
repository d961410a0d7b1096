-- What a check leaves in the sink and why it ended: from the parts of the run to all of it.
use Rattle.std.proofs.Common.{◌≡◌, ℕ, ◌<◌, Bool, IsTrue, List, [], ◌++◌, length, refl, sym, subst, inl, inr}
use Rattle.script_lang.specs.declared.fault.DocumentFault.{DocumentFault}
use Rattle.documents.specs.Checks.{ChecksAs}
use Rattle.documents.specs.Documents.{IsToldFault}
use Rattle.documents.proofs.ReadBytes.{all_read}
use Rattle.script_runner.specs.declared.status.Status.{Status}
use Rattle.script_runner.specs.declared.status.Status.TheVariants.{Done, BadDocument, WriteFault, OutOfMemory}
use Rattle.script_runner.specs.Checks.{CheckedText, CheckedCause, CheckText, CheckCause}
use Rattle.script_runner.specs.Faults.{FaultText, FaultCause}
use Rattle.script_runner.proofs.Sources.{refused_by, lift_of, lift_tells, lift_cuts, lift_has}

-- a fault that was told

pub fault_text_checked : (blocks : Bool) (bytes : List ℕ) (fault : DocumentFault) (before after : List ℕ) (status : Status) → IsToldFault blocks bytes fault →
    FaultText fault before after status → CheckedText blocks bytes before after status
fault_text_checked blocks bytes fault before after (BadDocument line) first text = record {
  fault = record { line = line; text = text.0 };
  refused = refused_by blocks bytes fault line text.0 text.1 first;
  line_is = refl;
  text = text.2;
}
fault_text_checked blocks bytes fault before after (WriteFault done) first text = inr (record {
  fault = record { line = text.0; text = text.1.0 };
  refused = refused_by blocks bytes fault text.0 text.1.0 text.1.1 first;
  cut = text.1.2;
})
fault_text_checked blocks bytes fault before after (OutOfMemory done) first text = text
fault_text_checked blocks bytes fault before after other first text = absurd text

pub fault_cause_checked : (blocks : Bool) (bytes : List ℕ) (fault : DocumentFault) (write_rose : Type 0) (status : Status) → IsToldFault blocks bytes fault →
    FaultCause fault write_rose status → CheckedCause blocks bytes write_rose status
fault_cause_checked blocks bytes fault write_rose (BadDocument line) first cause = record {
  fault = record { line = line; text = cause.0 };
  refused = refused_by blocks bytes fault line cause.0 cause.1 first;
  line_is = refl;
}
fault_cause_checked blocks bytes fault write_rose (WriteFault done) first cause = cause
fault_cause_checked blocks bytes fault write_rose (OutOfMemory done) first cause = cause
fault_cause_checked blocks bytes fault write_rose other first cause = absurd cause

-- bytes that were read, and all that the source had left

lift_checks : (blocks : Bool) (left read rest text : List ℕ) → left ≡ read ++ rest → (length read < 16777217 → rest ≡ []) → ChecksAs blocks read text → ChecksAs blocks left text
lift_checks blocks left read rest text whole short checks =
    subst (λ (t : List ℕ). ChecksAs blocks t text) (sym (all_read left read rest whole short checks.read.has.size)) checks

pub check_text : (blocks : Bool) (told : Bool) (left read rest before after : List ℕ) (status : Status) → (IsTrue told → left ≡ read ++ rest) →
    (IsTrue told → length read < 16777217 → rest ≡ []) → CheckedText blocks read before after status → CheckText blocks told left before after status
check_text blocks told left read rest before after Done whole short text = λ t. record {
  text = text.text;
  checks = lift_checks blocks left read rest text.text (whole t) (short t) text.checks;
  held = text.held;
}
check_text blocks told left read rest before after (BadDocument line) whole short text = λ t. lift_tells blocks left read rest line before after (whole t) (short t) text
check_text blocks told left read rest before after (WriteFault done) whole short text = λ t. elim text [
  | inl x ↦ inl (record { text = x.text; checks = lift_checks blocks left read rest x.text (whole t) (short t) x.checks; cut = x.cut })
  | inr x ↦ inr (lift_cuts blocks left read rest before after done (whole t) (short t) x)
]
check_text blocks told left read rest before after (OutOfMemory done) whole short text = text
check_text blocks told left read rest before after other whole short text = absurd text

pub check_cause : (blocks : Bool) (told : Bool) (left read rest : List ℕ) (read_rose write_rose : Type 0) (status : Status) → (IsTrue told → left ≡ read ++ rest) →
    (IsTrue told → length read < 16777217 → rest ≡ []) → CheckedCause blocks read write_rose status → CheckCause blocks told left read_rose write_rose status
check_cause blocks told left read rest read_rose write_rose Done whole short cause = λ t. lift_of blocks left read rest _ (whole t) (short t) cause
check_cause blocks told left read rest read_rose write_rose (BadDocument line) whole short cause = λ t. lift_has blocks left read rest line (whole t) (short t) cause
check_cause blocks told left read rest read_rose write_rose (WriteFault done) whole short cause = cause
check_cause blocks told left read rest read_rose write_rose (OutOfMemory done) whole short cause = cause
check_cause blocks told left read rest read_rose write_rose other whole short cause = absurd cause
