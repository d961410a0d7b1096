-- What a check leaves in the sink, and why it ended, by its status.
use Rattle.std.specs.Prelude.{◌≡◌, ℕ, Bool, IsTrue, List, ◌++◌, ◌⊎◌}
use Rattle.documents.specs.Checks.{ChecksAs}
use Rattle.documents.specs.Documents.{OfDocument, HasFault}
use Rattle.script_runner.specs.declared.status.Status.{Status}
use Rattle.script_runner.specs.declared.status.Status.TheVariants.{Done, BadDocument, ReadFault, WriteFault, OutOfMemory}
use Rattle.script_runner.specs.Faults.{CutLine, TellsFault, CutsFault}

-- the whole text, and a front of it

pub record PutsCheck (blocks : Bool) (bytes before after : List ℕ) : Type 0 where
  pub text : List ℕ
  pub checks : ChecksAs blocks bytes text
  pub held : after ≡ before ++ text

pub record CutsCheck (blocks : Bool) (bytes before after : List ℕ) (done : ℕ) : Type 0 where
  pub text : List ℕ
  pub checks : ChecksAs blocks bytes text
  pub cut : CutLine text before after done

-- the sink after bytes were checked, by the status
abbrev pub CheckedText : Bool → List ℕ → List ℕ → List ℕ → Status → Type 0
CheckedText blocks bytes before after Done = PutsCheck blocks bytes before after
CheckedText blocks bytes before after (BadDocument line) = TellsFault blocks bytes line before after
CheckedText blocks bytes before after (WriteFault done) = CutsCheck blocks bytes before after done ⊎ CutsFault blocks bytes before after done
CheckedText blocks bytes before after (OutOfMemory done) = (done ≡ 0) × (after ≡ before)
CheckedText blocks bytes before after other = ⊥

-- the sink after a source was to be checked; where it tells its bytes, the document is all that it had left
abbrev pub CheckText : Bool → Bool → List ℕ → List ℕ → List ℕ → Status → Type 0
CheckText blocks told left before after Done = IsTrue told → CheckedText blocks left before after Done
CheckText blocks told left before after (BadDocument line) = IsTrue told → CheckedText blocks left before after (BadDocument line)
CheckText blocks told left before after ReadFault = after ≡ before
CheckText blocks told left before after (WriteFault done) = IsTrue told → CheckedText blocks left before after (WriteFault done)
CheckText blocks told left before after (OutOfMemory done) = (done ≡ 0) × (after ≡ before)
CheckText blocks told left before after other = ⊥

-- why a check of bytes that were read ended so, whatever the sink tells
abbrev pub CheckedCause : Bool → List ℕ → Type 0 → Status → Type 0
CheckedCause blocks bytes write_rose Done = OfDocument blocks bytes (λ document. Unit {0})
CheckedCause blocks bytes write_rose (BadDocument line) = HasFault blocks bytes line
CheckedCause blocks bytes write_rose (WriteFault done) = (done ≡ 0) × write_rose
CheckedCause blocks bytes write_rose (OutOfMemory done) = done ≡ 0
CheckedCause blocks bytes write_rose other = ⊥

abbrev pub CheckCause : Bool → Bool → List ℕ → Type 0 → Type 0 → Status → Type 0
CheckCause blocks told left read_rose write_rose Done = IsTrue told → OfDocument blocks left (λ document. Unit {0})
CheckCause blocks told left read_rose write_rose (BadDocument line) = IsTrue told → HasFault blocks left line
CheckCause blocks told left read_rose write_rose ReadFault = read_rose
CheckCause blocks told left read_rose write_rose (WriteFault done) = (done ≡ 0) × write_rose
CheckCause blocks told left read_rose write_rose (OutOfMemory done) = done ≡ 0
CheckCause blocks told left read_rose write_rose other = ⊥
