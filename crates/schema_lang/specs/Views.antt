-- What the parser's values stand for in the grammar.
use Rattle.std.specs.Prelude.{ℕ, Result, Ok, Err, List, map, length, ◌<◌}
use Rattle.std.specs.Str.Lines.{lines}
use Rattle.schema_lang.specs.declared.parse.SchemaPart.{SchemaPart}
use Rattle.schema_lang.specs.declared.parse.SaidLine.{SaidLine}
use Rattle.schema_lang.specs.declared.parse.Next.{Next}
use Rattle.schema_lang.specs.declared.parse.Next.TheVariants.{Line, Missing}
use Rattle.schema_lang.specs.Rows.{word_text}
use Rattle.schema_lang.specs.Grammar.{Part, Said}

-- a schema part, with the lines of the bytes behind it
abbrev pub part_view : SchemaPart → Part
part_view part = record { schema = part.schema; rest = lines part.rest.now; next = part.next }

abbrev pub said_view : SaidLine → Said
said_view said = record { number = said.number; words = map word_text said.words; rest = lines said.rest.now }

abbrev pub next_view : Next → Result Said ℕ
next_view (Line said) = Ok (said_view said)
next_view (Missing number) = Err number

abbrev pub IsShorter : Next → List ℕ → Type 0
IsShorter (Line said) bytes = length said.rest.now < length bytes
IsShorter (Missing number) bytes = Unit {0}
