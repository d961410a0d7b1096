-- What the line of a document's first fault leaves in the sink, and why it ended so.
use Rattle.std.specs.Prelude.{◌≡◌, ℕ, Bool, List, ◌++◌}
use Rattle.job_report.specs.Texts.{fault_text}
use Rattle.script_lang.specs.declared.fault.DocumentFault.{DocumentFault}
use Rattle.script_lang.specs.declared.fault.DocumentFault.TheVariants as document_fault
use Rattle.script_lang.specs.Scripts.{Fault}
use Rattle.documents.specs.Cuts.{IsCut}
use Rattle.documents.specs.Documents.{IsFault}
use Rattle.script_runner.specs.declared.status.Status.{Status}
use Rattle.script_runner.specs.declared.status.Status.TheVariants.{Done, Usage, BadDocument, ReadFault, WriteFault, OutOfMemory, Down, BadStore}

abbrev pub fault_line : Fault → List ℕ
fault_line fault = fault_text fault.line fault.text

-- a line before the first command that did not go out whole
abbrev pub CutLine : List ℕ → List ℕ → List ℕ → ℕ → Type 0
CutLine line before after done = (done ≡ 0) × IsCut before after line

-- the sink after the line of a fault was to be put, and why it ended so

abbrev pub FaultText : DocumentFault → List ℕ → List ℕ → Status → Type 0
FaultText told before after Done = ⊥
FaultText told before after Usage = ⊥
FaultText told before after (BadDocument line) = (text : List ℕ) × (told ≡ document_fault.Bad line text) × (after ≡ before ++ fault_text line text)
FaultText told before after ReadFault = ⊥
FaultText told before after (WriteFault done) =
    (line : ℕ) × ((text : List ℕ) × (told ≡ document_fault.Bad line text) × CutLine (fault_text line text) before after done)
FaultText told before after (OutOfMemory done) = (done ≡ 0) × (after ≡ before)
FaultText told before after (Down len) = ⊥
FaultText told before after (BadStore area at) = ⊥

abbrev pub FaultCause : DocumentFault → Type 0 → Status → Type 0
FaultCause told write_rose Done = ⊥
FaultCause told write_rose Usage = ⊥
FaultCause told write_rose (BadDocument line) = (text : List ℕ) × (told ≡ document_fault.Bad line text)
FaultCause told write_rose ReadFault = ⊥
FaultCause told write_rose (WriteFault done) = (done ≡ 0) × write_rose
FaultCause told write_rose (OutOfMemory done) = done ≡ 0
FaultCause told write_rose (Down len) = ⊥
FaultCause told write_rose (BadStore area at) = ⊥

-- the line of the fault for which the bytes are not run
pub record TellsFault (blocks : Bool) (bytes : List ℕ) (line : ℕ) (before after : List ℕ) : Type 0 where
  pub fault : Fault
  pub refused : IsFault blocks bytes fault
  pub line_is : line ≡ fault.line
  pub text : after ≡ before ++ fault_line fault

-- a front of that line
pub record CutsFault (blocks : Bool) (bytes : List ℕ) (before after : List ℕ) (done : ℕ) : Type 0 where
  pub fault : Fault
  pub refused : IsFault blocks bytes fault
  pub cut : CutLine (fault_line fault) before after done
