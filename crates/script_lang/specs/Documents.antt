-- A document: its schema and its script, or the first fault of its bytes, the check of the schema apart.
use Rattle.std.specs.Prelude.{◌≡◌, ℕ, true, Result, Ok, Err, List, length, nat_lt, if◌then◌else◌, codes}
use Rattle.std.specs.Str.Lines.{lines}
use Rattle.delf_model.specs.declared.script.Command.{Command}
use Rattle.delf_model.specs.declared.schema.Schema.{Schema}
use Rattle.schema_lang.specs.declared.fault.SchemaFault.{SchemaFault}
use Rattle.schema_lang.specs.declared.fault.SchemaFault.TheVariants as part_fault
use Rattle.schema_lang.specs.Grammar as schema_part
use Rattle.script_lang.specs.declared.fault.DocumentFault.{DocumentFault}
use Rattle.script_lang.specs.declared.fault.DocumentFault.TheVariants.{Bad, OutOfMemory}
use Rattle.script_lang.specs.Parts.{wrong_of}
use Rattle.script_lang.specs.Scripts.{Fault, text_of, script_of}

-- a fault of the schema part, told in words
abbrev pub schema_fault : schema_part.Fault → Fault
schema_fault fault = record { line = fault.line; text = text_of (wrong_of fault.why) }

abbrev pub with_script : Schema → Result (List Command) Fault → Result (Schema × List Command) Fault
with_script schema (Ok script) = Ok (schema, script)
with_script schema (Err fault) = Err fault

abbrev pub behind_part : Result schema_part.Part schema_part.Fault → Result (Schema × List Command) Fault
behind_part (Ok part) = with_script part.schema (script_of part.schema true part.rest part.next)
behind_part (Err fault) = Err (schema_fault fault)

-- what these bytes spell: a document has at most 16,777,216 bytes
abbrev pub document_of : List ℕ → Result (Schema × List Command) Fault
document_of bytes =
    if nat_lt 16777216 (length bytes) then Err (record { line = 0; text = codes "document too long" })
    else behind_part (schema_part.part_of (lines bytes))

-- what a call gives is what the bytes spell or their first fault, unless memory runs out
abbrev pub Tells : {A : Type 0} → DocumentFault → Result A Fault → Type 0
Tells (Bad line text) read = read ≡ Err (record { line = line; text = text })
Tells OutOfMemory read = Unit {0}

abbrev pub Spells : {A : Type 0} → Result A DocumentFault → Result A Fault → Type 0
Spells (Ok x) read = read ≡ Ok x
Spells (Err fault) read = Tells fault read

-- the fault of a line, told in words, unless memory runs out
abbrev pub IsLineTold : DocumentFault → ℕ → List ℕ → Type 0
IsLineTold (Bad line text) number words = (line ≡ number) × (text ≡ words)
IsLineTold OutOfMemory number words = Unit {0}

-- a fault that a reader of the schema part gave, told in words
abbrev pub TellsPart : SchemaFault → DocumentFault → Type 0
TellsPart (part_fault.Bad line why) told = IsLineTold told line (text_of (wrong_of why))
TellsPart part_fault.OutOfMemory told = told ≡ OutOfMemory
