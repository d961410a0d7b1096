-- The schema part of a document: the schema that its lines spell, or their first fault.
use Rattle.std.specs.Prelude.{◌≡◌, ℕ, ◌+◌, min, Option, Some, None, Result, Ok, Err, List, [], ◌∷◌, ◌++◌, length, map, nat_lt, if◌then◌else◌}
use Rattle.std.specs.Str.Lines.{lines}
use Rattle.delf_model.specs.declared.schema.Schema.{Schema}
use Rattle.delf_model.specs.declared.schema.ObjectType.{ObjectType}
use Rattle.delf_model.specs.declared.schema.EdgeType.{EdgeType}
use Rattle.schema_lang.specs.declared.line.Line.{Line}
use Rattle.schema_lang.specs.declared.line.Line.TheVariants.{Skipped, Faulty, Words}
use Rattle.schema_lang.specs.declared.row.Row.{Row}
use Rattle.schema_lang.specs.declared.row.Row.TheVariants.{Script, Object, Edge}
use Rattle.schema_lang.specs.declared.parse.Step.{Step}
use Rattle.schema_lang.specs.declared.parse.Step.TheVariants.{Ended, More}
use Rattle.schema_lang.specs.declared.fault.SchemaFault.{SchemaFault}
use Rattle.schema_lang.specs.declared.fault.SchemaFault.TheVariants.{Bad, OutOfMemory}
use Rattle.schema_lang.specs.declared.why.Why.{Why}
use Rattle.schema_lang.specs.declared.why.Why.TheVariants.{Malformed, OutOfRange}
use Rattle.schema_lang.specs.Words.{line_of}
use Rattle.schema_lang.specs.Rows.{word_text, row_of, is_header, window_of}

-- what is wrong, and with which line
pub record Fault : Type 0 where
  pub line : ℕ
  pub why : Why

-- the number of the line after this one; numbers stay at the greatest of 32 bits
abbrev pub line_after : ℕ → ℕ
line_after number = min (number + 1) 4294967295

-- the words of a line that is not skipped; a malformed payload leaves it without any, which fits no line
abbrev pub said_by : Line → Option (List (List ℕ))
said_by Skipped = None
said_by Faulty = Some []
said_by (Words found) = Some (map word_text found)

-- the first line that says something, its number, and the lines behind it; or the number of the line that is missing
pub record Said : Type 0 where
  pub number : ℕ
  pub words : List (List ℕ)
  pub rest : List (List ℕ)

abbrev pub said_or : Option (List (List ℕ)) → ℕ → List (List ℕ) → Result Said ℕ → Result Said ℕ
said_or None number rest later = later
said_or (Some words) number rest later = Ok (record { number = number; words = words; rest = rest })

abbrev pub first_said : ℕ → List (List ℕ) → Result Said ℕ
first_said number [] = Err number
first_said number (line ∷ rest) = said_or (said_by (line_of line)) number rest (first_said (line_after number) rest)

-- a schema, the lines behind its part, and the number of the first of these
pub record Part : Type 0 where
  pub schema : Schema
  pub rest : List (List ℕ)
  pub next : ℕ

infixl 10 ◌>>=◌
abbrev pub ◌>>=◌ : {A B : Type 0} → Result A Fault → (A → Result B Fault) → Result B Fault
(Ok x) >>= f = f x
(Err fault) >>= f = Err fault

abbrev pub at_line : {A : Type 0} → ℕ → Result A Why → Result A Fault
at_line number (Ok x) = Ok x
at_line number (Err why) = Err (record { line = number; why = why })

-- a line that has to come: the number of a missing one is malformed
abbrev pub owed : Result Said ℕ → Result Said Fault
owed (Ok said) = Ok said
owed (Err number) = Err (record { line = number; why = Malformed })

abbrev pub with_object : Schema → ObjectType → Result Schema Why
with_object schema object =
    if nat_lt (length schema.objects) 64 then Ok (record { window = schema.window; objects = schema.objects ++ object ∷ []; edges = schema.edges }) else Err OutOfRange

abbrev pub with_edge : Schema → EdgeType → Result Schema Why
with_edge schema edge =
    if nat_lt (length schema.edges) 256 then Ok (record { window = schema.window; objects = schema.objects; edges = schema.edges ++ edge ∷ [] }) else Err OutOfRange

-- what a row makes of the schema before it: at `script` the part ends, else it goes on with one type more
abbrev pub goes_on : Result Schema Fault → Result Step Fault
goes_on (Ok schema) = Ok (More schema)
goes_on (Err fault) = Err fault

abbrev pub row_at : ℕ → Schema → Row → Result Step Fault
row_at number schema Script = Ok (Ended schema)
row_at number schema (Object object) = goes_on (at_line number (with_object schema object))
row_at number schema (Edge edge) = goes_on (at_line number (with_edge schema edge))

abbrev pub step_of : ℕ → Schema → List (List ℕ) → Result Step Fault
step_of number schema words = at_line number (row_of number words) >>= row_at number schema

abbrev pub behind_step : ℕ → List (List ℕ) → (Schema → Result Part Fault) → Step → Result Part Fault
behind_step number rest more (Ended schema) = Ok (record { schema = schema; rest = rest; next = line_after number })
behind_step number rest more (More schema) = more schema

abbrev pub said_at : ℕ → Schema → List (List ℕ) → (Schema → Result Part Fault) → Option (List (List ℕ)) → Result Part Fault
said_at number schema rest more None = more schema
said_at number schema rest more (Some words) = step_of number schema words >>= behind_step number rest more

-- the rows of these lines, behind a schema that was read so far
unfoldable pub rows : List (List ℕ) → ℕ → Schema → Result Part Fault
rows [] number schema = Ok (record { schema = schema; rest = []; next = number })
rows (line ∷ rest) number schema = said_at number schema rest (rows rest (line_after number)) (said_by (line_of line))

abbrev pub header : Said → Result Said Fault
header said = if is_header said.words then owed (first_said (line_after said.number) said.rest) else Err (record { line = said.number; why = Malformed })

abbrev pub empty_schema : ℕ → Schema
empty_schema window = record { window = window; objects = []; edges = [] }

-- the schema part of a document of these lines
unfoldable pub part_of : List (List ℕ) → Result Part Fault
part_of document = do
  first ← owed (first_said 1 document)
  second ← header first
  window ← at_line second.number (window_of second.words)
  rows second.rest (line_after second.number) (empty_schema window)

-- the schema that a document's bytes spell
abbrev pub schema_of : List ℕ → Result Schema Fault
schema_of bytes = do
  part ← part_of (lines bytes)
  Ok part.schema

-- what a call gives, seen by view, is what the bytes spell or their first fault, unless memory runs out
abbrev pub Fails : {A : Type 0} → SchemaFault → Result A Fault → Type 0
Fails (Bad line why) read = read ≡ Err (record { line = line; why = why })
Fails OutOfMemory read = Unit {0}

abbrev pub Gives : {X A : Type 0} → (X → A) → Result X SchemaFault → Result A Fault → Type 0
Gives view (Ok x) read = read ≡ Ok (view x)
Gives view (Err fault) read = Fails fault read
