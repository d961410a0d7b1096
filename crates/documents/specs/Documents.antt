-- A document that is accepted, and the first fault of one that is not.
use Rattle.std.specs.Prelude.{◌≡◌, ℕ, ◌<◌, ◌≤◌, Bool, true, false, Option, Some, None, Ok, Err, List, [], ◌++◌, length, slice_get, codes}
use Rattle.std.specs.Str.Lines.{lines}
use Rattle.delf_model.specs.declared.schema.Schema.{Schema}
use Rattle.delf_model.specs.declared.schema.EdgeType.{EdgeType}
use Rattle.delf_model.specs.declared.rules.Broken.{Broken}
use Rattle.delf_model.specs.declared.rules.Broken.TheVariants.{ObjectTwice, EdgeTwice, Undeclared, CannotTake, NoRoute}
use Rattle.delf_model.specs.Broken.{IsFirstBroken}
use Rattle.delf_model.specs.Checked.{IsChecked, numbered}
use Rattle.schema_lang.specs.Grammar as grammar
use Rattle.schema_checks.specs.Faults.{line_of_object, line_of_edge}
use Rattle.script_lang.specs.declared.fault.DocumentFault.{DocumentFault}
use Rattle.script_lang.specs.declared.fault.DocumentFault.TheVariants.{Bad, OutOfMemory}
use Rattle.script_lang.specs.Scripts.{Fault, script_of}
use Rattle.script_lang.specs.Documents.{schema_fault}
use Rattle.documents.specs.declared.document.Document.{Document}
use Rattle.documents.specs.Names.{kind_name, edge_name}

-- the lines of a document, few enough bytes, spell this schema part
pub record HasPart (bytes : List ℕ) (part : grammar.Part) : Type 0 where
  pub size : length bytes ≤ 16777216
  pub spelled : grammar.part_of (lines bytes) ≡ Ok part

-- the bytes are this document: its schema is checked, and each line behind the schema part is a command, or with `blocks` one of a block
pub record IsDocument (blocks : Bool) (bytes : List ℕ) (document : Document) : Type 0 where
  pub part : grammar.Part
  pub has : HasPart bytes part
  pub schema : part.schema ≡ document.schema
  pub checked : IsChecked document.schema
  pub rules : document.rules ≡ numbered document.schema
  pub script : script_of document.schema blocks part.rest part.next ≡ Ok document.commands

-- the row that breaks a rule is one of the schema
abbrev pub IsThere : Schema → Broken → Type 0
IsThere schema (ObjectTwice row) = row < length schema.objects
IsThere schema (EdgeTwice row) = row < length schema.edges
IsThere schema (Undeclared row target) = row < length schema.edges
IsThere schema (CannotTake row) = row < length schema.edges
IsThere schema (NoRoute row) = row < length schema.objects

-- what is said of a broken rule, and of which line

abbrev pub source_name : Option EdgeType → List ℕ
source_name None = []
source_name (Some edge) = edge.from

abbrev pub target_name : Option EdgeType → List ℕ
target_name None = []
target_name (Some edge) = edge.to

abbrev pub end_name : Schema → ℕ → Bool → List ℕ
end_name schema row false = source_name (slice_get schema.edges row)
end_name schema row true = target_name (slice_get schema.edges row)

abbrev pub broken_text : Schema → Broken → List ℕ
broken_text schema (ObjectTwice row) = codes "name " ++ kind_name schema row ++ codes " declared twice"
broken_text schema (EdgeTwice row) = codes "name " ++ edge_name schema row ++ codes " declared twice"
broken_text schema (Undeclared row target) = codes "type " ++ end_name schema row target ++ codes " not declared"
broken_text schema (CannotTake row) = codes "edge " ++ edge_name schema row ++ codes " cannot take " ++ end_name schema row true
broken_text schema (NoRoute row) = codes "type " ++ kind_name schema row ++ codes " has no route"

abbrev pub broken_line : Schema → Broken → ℕ
broken_line schema (ObjectTwice row) = line_of_object schema row
broken_line schema (EdgeTwice row) = line_of_edge schema row
broken_line schema (Undeclared row target) = line_of_edge schema row
broken_line schema (CannotTake row) = line_of_edge schema row
broken_line schema (NoRoute row) = line_of_object schema row

abbrev pub broken_fault : Schema → Broken → Fault
broken_fault schema broken = record { line = broken_line schema broken; text = broken_text schema broken }

-- the fault of these bytes that is tried first: their number, the schema part, its check, the script
pub data IsFault (blocks : Bool) (bytes : List ℕ) (fault : Fault) : Type 0 where
  TooLong : 16777216 < length bytes → fault ≡ record { line = 0; text = codes "document too long" } → IsFault blocks bytes fault
  InPart : (found : grammar.Fault) → length bytes ≤ 16777216 → grammar.part_of (lines bytes) ≡ Err found → fault ≡ schema_fault found →
      IsFault blocks bytes fault
  InCheck : (part : grammar.Part) (broken : Broken) → HasPart bytes part → IsFirstBroken part.schema broken →
      fault ≡ broken_fault part.schema broken → IsFault blocks bytes fault
  InScript : (part : grammar.Part) → HasPart bytes part → IsChecked part.schema → script_of part.schema blocks part.rest part.next ≡ Err fault →
      IsFault blocks bytes fault

-- what is told of bytes that are no document
abbrev pub IsToldFault : Bool → List ℕ → DocumentFault → Type 0
IsToldFault blocks bytes (Bad line text) = IsFault blocks bytes (record { line = line; text = text })
IsToldFault blocks bytes OutOfMemory = Unit {0}

-- these bytes are some document, of which this holds
pub record OfDocument (blocks : Bool) (bytes : List ℕ) (P : Document → Type 0) : Type 0 where
  pub document : Document
  pub read : IsDocument blocks bytes document
  pub holds : P document

-- the first fault of these bytes has this line
pub record HasFault (blocks : Bool) (bytes : List ℕ) (line : ℕ) : Type 0 where
  pub fault : Fault
  pub refused : IsFault blocks bytes fault
  pub line_is : line ≡ fault.line
