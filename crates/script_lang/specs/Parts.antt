-- What a word means at its place in a line, and which fault of a line comes first.
use Rattle.std.specs.Prelude.{◌≡◌, ℕ, Result, Ok, Err, List, length, nat_lt, if◌then◌else◌}
use Rattle.std.specs.List.{position_or_len}
use Rattle.std.specs.Str.{bytes_eq}
use Rattle.delf_model.specs.declared.schema.Schema.{Schema}
use Rattle.delf_model.specs.declared.schema.EdgeType.{EdgeType}
use Rattle.delf_model.specs.Checked.{number_of}
use Rattle.schema_lang.specs.declared.line.Word.{Word}
use Rattle.schema_lang.specs.declared.why.Why.{Why}
use Rattle.schema_lang.specs.declared.why.Why.TheVariants as whys
use Rattle.schema_lang.specs.Rows.{word_text}
use Rattle.schema_lang.specs.Numbers.{number_in, name_in}
use Rattle.script_lang.specs.declared.fault.Wrong.{Wrong}
use Rattle.script_lang.specs.declared.fault.Wrong.TheVariants.{Malformed, OutOfRange, Unknown}
use Rattle.script_lang.specs.declared.fault.LineFault.{LineFault}
use Rattle.script_lang.specs.declared.fault.LineFault.TheVariants.{Bad, OutOfMemory}

-- of two faults of one line the one that is told: malformed, then out of range, then the first name that is unknown
abbrev pub worse : Wrong → Wrong → Wrong
worse Malformed other = Malformed
worse OutOfRange Malformed = Malformed
worse OutOfRange OutOfRange = OutOfRange
worse OutOfRange (Unknown name) = OutOfRange
worse (Unknown name) Malformed = Malformed
worse (Unknown name) OutOfRange = OutOfRange
worse (Unknown name) (Unknown other) = Unknown name

-- what two parts of a line mean, or what is wrong with them
abbrev pub both : {A B : Type 0} → Result A Wrong → Result B Wrong → Result (A × B) Wrong
both (Ok x) (Ok y) = Ok (x, y)
both (Ok x) (Err wrong) = Err wrong
both (Err wrong) (Ok y) = Err wrong
both (Err wrong) (Err other) = Err (worse wrong other)

-- what is made of a part that is not wrong
abbrev pub mapped : {A B : Type 0} → (A → B) → Result A Wrong → Result B Wrong
mapped f (Ok x) = Ok (f x)
mapped f (Err wrong) = Err wrong

abbrev pub wrong_of : Why → Wrong
wrong_of whys.Malformed = Malformed
wrong_of whys.OutOfRange = OutOfRange

abbrev pub as_part : {A : Type 0} → Result A Why → Result A Wrong
as_part (Ok x) = Ok x
as_part (Err why) = Err (wrong_of why)

-- a number of these bounds
abbrev pub number_part : ℕ → ℕ → Word → Result ℕ Wrong
number_part least greatest word = as_part (number_in least greatest (word_text word))

-- an id: 1 to 999,999,999,999
abbrev pub id_part : Word → Result ℕ Wrong
id_part word = number_part 1 999999999999 word

-- the number that a caller gives a job: 0 to 4,294,967,295
abbrev pub job_part : Word → Result ℕ Wrong
job_part word = number_part 0 4294967295 word

-- the place of a name among so many, where it stands there
abbrev pub place_part : ℕ → ℕ → List ℕ → Result ℕ Wrong
place_part count place name = if nat_lt place count then Ok place else Err (Unknown name)

abbrev pub named : (List ℕ → ℕ) → ℕ → Result (List ℕ) Why → Result ℕ Wrong
named place count (Ok name) = place_part count (place name) name
named place count (Err why) = Err (wrong_of why)

-- the number of the first edge type with this name, and past the last one where none has it
abbrev pub edge_number : List EdgeType → List ℕ → ℕ
edge_number edges name = position_or_len (λ edge. bytes_eq edge.name name) edges

-- the name of an object type, as its number
abbrev pub type_part : Schema → Word → Result ℕ Wrong
type_part schema word = named (number_of schema.objects) (length schema.objects) (name_in (word_text word))

-- the name of an edge type, as its number
abbrev pub edge_part : Schema → Word → Result ℕ Wrong
edge_part schema word = named (edge_number schema.edges) (length schema.edges) (name_in (word_text word))

-- what a call gives is what the words mean, or what is wrong with them, unless memory runs out
abbrev pub FailsWith : {A : Type 0} → LineFault → Result A Wrong → Type 0
FailsWith (Bad wrong) read = read ≡ Err wrong
FailsWith OutOfMemory read = Unit {0}

abbrev pub Reads : {A : Type 0} → Result A LineFault → Result A Wrong → Type 0
Reads (Ok x) read = read ≡ Ok x
Reads (Err fault) read = FailsWith fault read
