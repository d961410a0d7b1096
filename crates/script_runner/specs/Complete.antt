-- Where no count of faults rises, the words are a command, the document has no fault and the store stands, a run is done; memory alone
-- may be wanting.
use Rattle.std.specs.Prelude.{◌≡◌, ℕ, Bool, IsTrue, Option, Some, None, List}
use Rattle.delf_disk.specs.Areas.{Areas}
use Rattle.delf_model.specs.declared.entry.Entry.{Entry}
use Rattle.delf_model.specs.RuleSet.{RuleSet}
use Rattle.delf_model.specs.Payloads.{Payloads}
use Rattle.store_laws.specs.Stores.{StandBut}
use Rattle.documents.specs.declared.document.Document.{Document}
use Rattle.script_runner.specs.declared.status.Status.{Status}
use Rattle.script_runner.specs.declared.status.Status.TheVariants.{Done, Usage, OutOfMemory}
use Rattle.documents.specs.declared.words.Request.{Request}
use Rattle.documents.specs.declared.words.Request.TheVariants.{Run, Check, Load}
use Rattle.documents.specs.Documents.{IsDocument}
use Rattle.documents.specs.Loads.{IsLoad}

abbrev pub IsWell : Status → Type 0
IsWell Done = Unit {0}
IsWell (OutOfMemory done) = Unit {0}
IsWell status = ⊥

-- neither the source's nor the sink's nor the disk's count rose
pub record IsQuiet (read_rose write_rose rig_rose : Type 0) : Type 0 where
  pub source : read_rose → ⊥
  pub sink : write_rose → ⊥
  pub rig : rig_rose → ⊥

-- these areas stand for some history; blank ones stand for the empty one
pub record IsStore (rules : RuleSet) (seen : Areas) : Type 0 where
  pub history : List Entry
  pub payloads : Payloads
  pub stands : StandBut rules history payloads seen

-- by what the words ask for; `stands` says that the store stands under the document's rules
abbrev pub EndsWell : Bool → Option Request → Bool → List ℕ → (RuleSet → Type 0) → Status → Type 0
EndsWell blocks None told left stands status = status ≡ Usage
EndsWell blocks (Some (Run start)) told left stands status = (document : Document) → IsTrue told → IsDocument blocks left document → stands document.rules → IsWell status
EndsWell blocks (Some Check) told left stands status = (document : Document) → IsTrue told → IsDocument blocks left document → IsWell status
EndsWell blocks (Some (Load n)) told left stands status = (document : Document) → IsLoad blocks n document → stands document.rules → IsWell status
