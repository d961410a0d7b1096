-- What the words of one line mean among the rows of a schema.
use Rattle.std.specs.Prelude.{ℕ, Option, Some, None, Result, Ok, Err, List, [], ◌∷◌, ◌&&◌, Bool, false, if◌then◌else◌, codes}
use Rattle.std.specs.Str.{bytes_eq}
use Rattle.delf_model.specs.declared.schema.ObjectRule.{ObjectRule}
use Rattle.delf_model.specs.declared.schema.ObjectRule.TheVariants.{Directly, DirectlyOnly, ByAny, ShortTtl, NotDeleted}
use Rattle.delf_model.specs.declared.schema.EdgeRule.{EdgeRule}
use Rattle.delf_model.specs.declared.schema.EdgeRule.TheVariants.{Deep, Shallow, Refcount}
use Rattle.schema_lang.specs.declared.line.Word.{Word}
use Rattle.schema_lang.specs.declared.line.Word.TheVariants.{Plain, Payload}
use Rattle.schema_lang.specs.declared.row.Row.{Row}
use Rattle.schema_lang.specs.declared.row.Row.TheVariants.{Script, Object, Edge}
use Rattle.schema_lang.specs.declared.why.Why.{Why}
use Rattle.schema_lang.specs.declared.why.Why.TheVariants.{Malformed, OutOfRange}
use Rattle.schema_lang.specs.Numbers.{number_in, name_in}

-- the text of a plain word; a payload has none, and no keyword, name or number is empty
abbrev pub word_text : Word → List ℕ
word_text (Plain text) = text
word_text (Payload bytes) = []

-- what is wrong with a part of a line
abbrev pub why_of : {A : Type 0} → Result A Why → Option Why
why_of (Ok x) = None
why_of (Err why) = Some why

-- what is wrong with a line that has two such parts: malformed comes before out of range
abbrev pub worse : Option Why → Option Why → Option Why
worse None other = other
worse (Some Malformed) other = Some Malformed
worse (Some OutOfRange) None = Some OutOfRange
worse (Some OutOfRange) (Some why) = Some why

-- the row, unless something is wrong
abbrev pub unless : Option Why → Row → Result Row Why
unless None row = Ok row
unless (Some why) row = Err why

-- the annotation of an object type that has no number
abbrev pub plain_rule : List ℕ → Result ObjectRule Why
plain_rule text =
    if bytes_eq text (codes "directly") then Ok Directly
    else (if bytes_eq text (codes "directly_only") then Ok DirectlyOnly
    else (if bytes_eq text (codes "by_any") then Ok ByAny
    else (if bytes_eq text (codes "not_deleted") then Ok NotDeleted else Err Malformed)))

-- short_ttl with its seconds, 1 to 7,776,000
abbrev pub ttl_of : Result ℕ Why → Result ObjectRule Why
ttl_of (Ok seconds) = Ok (ShortTtl seconds)
ttl_of (Err why) = Err why

abbrev pub edge_rule : List ℕ → Result EdgeRule Why
edge_rule text =
    if bytes_eq text (codes "deep") then Ok Deep
    else (if bytes_eq text (codes "shallow") then Ok Shallow
    else (if bytes_eq text (codes "refcount") then Ok Refcount else Err Malformed))

abbrev pub object_row : ℕ → List ℕ → Result ObjectRule Why → Result Row Why
object_row line name (Ok rule) = unless (why_of (name_in name)) (Object (record { name = name; rule = rule; line = line }))
object_row line name (Err why) = unless (worse (why_of (name_in name)) (Some why)) Script

-- what is wrong with three names
abbrev pub names_why : List ℕ → List ℕ → List ℕ → Option Why
names_why name source target = worse (why_of (name_in name)) (worse (why_of (name_in source)) (why_of (name_in target)))

abbrev pub edge_row : ℕ → List ℕ → List ℕ → List ℕ → Result EdgeRule Why → Result Row Why
edge_row line name source target (Ok rule) =
    unless (names_why name source target) (Edge (record { name = name; from = source; to = target; rule = rule; line = line }))
edge_row line name source target (Err why) = Err why

-- The meaning of a line of these words: the row with this line number, or what is wrong.
unfoldable pub row_of : ℕ → List (List ℕ) → Result Row Why
row_of line (keyword ∷ []) = if bytes_eq keyword (codes "script") then Ok Script else Err Malformed
row_of line (keyword ∷ name ∷ rule ∷ []) = if bytes_eq keyword (codes "object") then object_row line name (plain_rule rule) else Err Malformed
row_of line (keyword ∷ name ∷ rule ∷ seconds ∷ []) =
    if bytes_eq keyword (codes "object") && bytes_eq rule (codes "short_ttl") then object_row line name (ttl_of (number_in 1 7776000 seconds)) else Err Malformed
row_of line (keyword ∷ name ∷ source ∷ target ∷ rule ∷ []) = if bytes_eq keyword (codes "edge") then edge_row line name source target (edge_rule rule) else Err Malformed
row_of line words = Err Malformed

-- whether these are the words of the first line
abbrev pub is_header : List (List ℕ) → Bool
is_header (keyword ∷ version ∷ []) = bytes_eq keyword (codes "schema") && bytes_eq version (codes "1")
is_header words = false

-- the seconds of the second line, 0 to 31,536,000
abbrev pub window_of : List (List ℕ) → Result ℕ Why
window_of (keyword ∷ seconds ∷ []) = if bytes_eq keyword (codes "window") then number_in 0 31536000 seconds else Err Malformed
window_of words = Err Malformed
