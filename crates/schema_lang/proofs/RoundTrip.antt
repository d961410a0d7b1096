-- What is printed of a schema is read back as the same schema.
use Rattle.std.proofs.Common.{◌≡◌, ℕ, ◌+◌, ◌<◌, ◌≤◌, ◌^◌, Bool, true, false, eqb, Ok, List, [], ◌∷◌, ◌++◌, length, get_or, map, refl, sym, ap, ◌∙◌, append_assoc, length-append, arith, rules, ⊎_elim, le-leb, lt-ltb}
use Rattle.std.specs.Prelude.{◌&&◌, ◌||◌, not, codes, nat_le}
use Rattle.std.specs.List.{list_all, AllByRecursion}
use Rattle.std.specs.Fmt.{decimal}
use Rattle.std.specs.Char.{is_ascii_digit}
use Rattle.std.specs.Str.Lines.{lines}
use Rattle.std.proofs.lemmas.Str.Parse.{IsNumeralModel, numerals_by_fold}
use Rattle.std.proofs.lemmas.Fmt.{digits_decimal, digits_value-decimal, decimal_nonempty, first_decimal, decimal_digit}
use Rattle.std.proofs.lemmas.Bool.{eqb-true, eqb-false, leb-true, false_from_ne_true}
use Rattle.std.proofs.lemmas.Bool.Decides.{nat_tests}
use Rattle.std.proofs.lemmas.List.{append-nil, map-append}
use Rattle.delf_model.specs.Names.{IsName, is_name_code}
use Rattle.delf_model.specs.declared.schema.ObjectRule.{ObjectRule}
use Rattle.delf_model.specs.declared.schema.ObjectRule.TheVariants.{Directly, DirectlyOnly, ByAny, ShortTtl, NotDeleted}
use Rattle.delf_model.specs.declared.schema.EdgeRule.{EdgeRule}
use Rattle.delf_model.specs.declared.schema.EdgeRule.TheVariants.{Deep, Shallow, Refcount}
use Rattle.delf_model.specs.declared.schema.ObjectType.{ObjectType}
use Rattle.delf_model.specs.declared.schema.EdgeType.{EdgeType}
use Rattle.delf_model.specs.declared.schema.Schema.{Schema}
use Rattle.schema_lang.specs.declared.row.Row.TheVariants.{Object, Edge}
use Rattle.schema_lang.specs.declared.parse.Step.TheVariants.{More}
use Rattle.schema_lang.specs.Numbers.{is_number, number_value, number_in, name_in}
use Rattle.schema_lang.specs.Rows.{row_of, is_header, window_of}
use Rattle.schema_lang.specs.Grammar.{rows, part_of, step_of, line_after, empty_schema}
use Rattle.delf_model.specs.Checked.{IsExpiry}
use Rattle.schema_lang.specs.Spelling.{IsSpellable, FitsObject, FitsEdge, ReadsAs, spelling, spaced, schema_words, header_words, window_words, object_words, edge_words, object_rule_words, edge_rule_word, objects_from, edges_from, line_behind, printed_schema}
use Rattle.schema_lang.proofs.WordLemmas.{either_bool}
use Rattle.schema_lang.proofs.NumberLemmas.{digits_on}
use Rattle.schema_lang.proofs.PrintLemmas.{IsNamed, AreNamed, both_true, said_spaced, lines_printed}

-- printed numbers
own : IsNumeralModel (λ digits. list_all is_ascii_digit digits ≡ true) (digits_on 0)
own = numerals_by_fold _ (search rules) digits_on (search rules)

number_decimal : (n : ℕ) → n < 2 ^ 64 → number_value (decimal n) ≡ n
number_decimal n fits = digits_value-decimal own n fits

digits_of_decimal : (n : ℕ) → n < 2 ^ 64 → list_all is_ascii_digit (decimal n) ≡ true
digits_of_decimal n fits = digits_decimal own n fits

all_three : (none digits leading single : Bool) → none ≡ false → digits ≡ true → (leading ≡ false) → (not none && digits && (not leading || single)) ≡ true
all_three none digits leading single some all high = rw (some, all, high) refl

is_number_decimal : (n : ℕ) → n < 2 ^ 64 → is_number (decimal n) ≡ true
is_number_decimal n fits =
    ⊎_elim
    (λ nothing. let zero : n ≡ 0 = eqb-true n 0 nothing in rw (zero, decimal_digit 0 (omega arith)) refl)
    (λ some. all_three (eqb (length (decimal n)) 0) (list_all is_ascii_digit (decimal n)) (eqb (get_or (decimal n) 0 0) 48) _
    (false_from_ne_true _ (λ same. absurd (omega (arith, decimal_nonempty n fits, eqb-true _ 0 same))))
    (digits_of_decimal n fits)
    (false_from_ne_true _ (λ same. absurd (omega (arith, first_decimal n (omega (arith, eqb-false n 0 some)) fits, eqb-true _ 48 same)))))
    (either_bool (eqb n 0))

pub number_in_decimal : (least greatest n : ℕ) → n < 2 ^ 64 → least ≤ n → n ≤ greatest → number_in least greatest (decimal n) ≡ Ok n
number_in_decimal least greatest n fits low high =
    rw (is_number_decimal n fits, number_decimal n fits, le-leb least n low, le-leb n greatest high) refl

digit_is_name_code : (byte : ℕ) → is_ascii_digit byte ≡ true → is_name_code byte ≡ true
digit_is_name_code byte digit = grind (arith, nat_tests)

digits_are_named : (digits : List ℕ) → list_all is_ascii_digit digits ≡ true → list_all is_name_code digits ≡ true
digits_are_named [] all = refl
digits_are_named (digit ∷ digits) all =
    let parts = both_true (is_ascii_digit digit) (list_all is_ascii_digit digits) all in
    rw (digit_is_name_code digit parts.0, digits_are_named digits parts.1) refl

decimal_named : (n : ℕ) → n < 2 ^ 64 → IsNamed (decimal n)
decimal_named n fits = record { some = decimal_nonempty n fits; each = digits_are_named (decimal n) (digits_of_decimal n fits) }

-- names
name_is : (text : List ℕ) → IsName text → (0 < length text) × (length text ≤ 32) × (list_all is_name_code text ≡ true)
name_is text name =
    let named = both_true (nat_le 1 (length text) && nat_le (length text) 32) (list_all is_name_code text) name in
    let sized = both_true (nat_le 1 (length text)) (nat_le (length text) 32) named.0 in
    (leb-true 1 (length text) sized.0, leb-true (length text) 32 sized.1, named.1)

name_named : (text : List ℕ) → IsName text → IsNamed text
name_named text name = let parts = name_is text name in record { some = parts.0; each = parts.2 }

pub name_in_name : (text : List ℕ) → IsName text → name_in text ≡ Ok text
name_in_name text name =
    let parts = name_is text name in
    rw (false_from_ne_true (eqb (length text) 0) (λ same. absurd (omega (arith, parts.0, eqb-true _ 0 same))), parts.2, le-leb (length text) 32 parts.1) refl

-- one row
object_row_back : (line : ℕ) (name : List ℕ) (rule : ObjectRule) → IsName name → IsExpiry rule
    → row_of line (codes "object" ∷ name ∷ object_rule_words rule) ≡ Ok (Object (record { name = name; rule = rule; line = line }))
unfolding row_of
object_row_back line name Directly named fits = rw (name_in_name name named) refl
object_row_back line name DirectlyOnly named fits = rw (name_in_name name named) refl
object_row_back line name ByAny named fits = rw (name_in_name name named) refl
object_row_back line name (ShortTtl seconds) named fits = rw (number_in_decimal 1 7776000 seconds (omega (arith, fits.1)) fits.0 fits.1, name_in_name name named) refl
object_row_back line name NotDeleted named fits = rw (name_in_name name named) refl

edge_row_back : (line : ℕ) (name source target : List ℕ) (rule : EdgeRule) → IsName name → IsName source → IsName target
    → row_of line (codes "edge" ∷ name ∷ source ∷ target ∷ edge_rule_word rule ∷ []) ≡ Ok (Edge (record { name = name; from = source; to = target; rule = rule; line = line }))
unfolding row_of
edge_row_back line name source target Deep a b c = rw (name_in_name name a, name_in_name source b, name_in_name target c) refl
edge_row_back line name source target Shallow a b c = rw (name_in_name name a, name_in_name source b, name_in_name target c) refl
edge_row_back line name source target Refcount a b c = rw (name_in_name name a, name_in_name source b, name_in_name target c) refl

literal : (word : List ℕ) → 0 < length word → list_all is_name_code word ≡ true → IsNamed word
literal word some each = record { some = some; each = each }

rule_words_named : (rule : ObjectRule) → IsExpiry rule → AllByRecursion IsNamed (object_rule_words rule)
rule_words_named Directly fits = (literal (codes "directly") (omega arith) refl, tt)
rule_words_named DirectlyOnly fits = (literal (codes "directly_only") (omega arith) refl, tt)
rule_words_named ByAny fits = (literal (codes "by_any") (omega arith) refl, tt)
rule_words_named (ShortTtl seconds) fits = (literal (codes "short_ttl") (omega arith) refl, (decimal_named seconds (omega (arith, fits.1)), tt))
rule_words_named NotDeleted fits = (literal (codes "not_deleted") (omega arith) refl, tt)

edge_rule_named : (rule : EdgeRule) → IsNamed (edge_rule_word rule)
edge_rule_named Deep = literal (codes "deep") (omega arith) refl
edge_rule_named Shallow = literal (codes "shallow") (omega arith) refl
edge_rule_named Refcount = literal (codes "refcount") (omega arith) refl

object_words_named : (object : ObjectType) → FitsObject object → AreNamed (object_words object)
object_words_named object fits = (literal (codes "object") (omega arith) refl, (name_named object.name fits.name, rule_words_named object.rule fits.rule))

edge_words_named : (edge : EdgeType) → FitsEdge edge → AreNamed (edge_words edge)
edge_words_named edge fits =
    (literal (codes "edge") (omega arith) refl, (name_named edge.name fits.name, (name_named edge.from fits.source, (name_named edge.to fits.target, (edge_rule_named edge.rule, tt)))))

abbrev adds_object : Schema → ℕ → ObjectType → Schema
adds_object schema line object = record { window = schema.window; objects = schema.objects ++ record { name = object.name; rule = object.rule; line = line } ∷ []; edges = schema.edges }

abbrev adds_edge : Schema → ℕ → EdgeType → Schema
adds_edge schema line edge = record { window = schema.window; objects = schema.objects; edges = schema.edges ++ record { name = edge.name; from = edge.from; to = edge.to; rule = edge.rule; line = line } ∷ [] }

object_step : (line : ℕ) (schema : Schema) (object : ObjectType) → FitsObject object → length schema.objects < 64 → step_of line schema (object_words object) ≡ Ok (More (adds_object schema line object))
object_step line schema object fits room =
    rw (object_row_back line object.name object.rule fits.name fits.rule, lt-ltb (length schema.objects) 64 room) refl

edge_step : (line : ℕ) (schema : Schema) (edge : EdgeType) → FitsEdge edge → length schema.edges < 256 → step_of line schema (edge_words edge) ≡ Ok (More (adds_edge schema line edge))
edge_step line schema edge fits room =
    rw (edge_row_back line edge.name edge.from edge.to edge.rule fits.name fits.source fits.target, lt-ltb (length schema.edges) 256 room) refl

-- all rows
rows_more : (found : List (List ℕ)) (rest : List (List ℕ)) (line : ℕ) (schema next : Schema) → AreNamed found → step_of line schema found ≡ Ok (More next)
    → rows (spaced found ∷ rest) line schema ≡ rows rest (line_after line) next
unfolding rows
rows_more found rest line schema next named step = rw (said_spaced found named, step) refl

rows_objects : (objects : List ObjectType) (tail : List (List ℕ)) (line : ℕ) (schema : Schema) → AllByRecursion FitsObject objects → length schema.objects + length objects ≤ 64
    → rows (map spaced (map object_words objects) ++ tail) line schema ≡ rows tail (line_behind line objects) (record { window = schema.window; objects = schema.objects ++ objects_from line objects; edges = schema.edges })
rows_objects [] tail line schema fits room = ap (λ (os : List ObjectType). rows tail line (record { window = schema.window; objects = os; edges = schema.edges })) (sym (append-nil schema.objects))
rows_objects (object ∷ more) tail line schema fits room =
    rows_more (object_words object) (map spaced (map object_words more) ++ tail) line schema (adds_object schema line object) (object_words_named object fits.0) (object_step line schema object fits.0 (omega arith))
    ∙ rows_objects more tail (line_after line) (adds_object schema line object) fits.1 (omega (arith, length-append schema.objects (record { name = object.name; rule = object.rule; line = line } ∷ [])))
    ∙ ap (λ (os : List ObjectType). rows tail (line_behind (line_after line) more) (record { window = schema.window; objects = os; edges = schema.edges })) (append_assoc schema.objects (record { name = object.name; rule = object.rule; line = line } ∷ []) (objects_from (line_after line) more))

rows_edges : (edges : List EdgeType) (line : ℕ) (schema : Schema) → AllByRecursion FitsEdge edges → length schema.edges + length edges ≤ 256
    → rows (map spaced (map edge_words edges)) line schema ≡ Ok (record { schema = record { window = schema.window; objects = schema.objects; edges = schema.edges ++ edges_from line edges }; rest = []; next = line_behind line edges })
unfolding rows
rows_edges [] line schema fits room = ap (λ (es : List EdgeType). Ok (record { schema = record { window = schema.window; objects = schema.objects; edges = es }; rest = []; next = line })) (sym (append-nil schema.edges))
rows_edges (edge ∷ more) line schema fits room =
    rows_more (edge_words edge) (map spaced (map edge_words more)) line schema (adds_edge schema line edge) (edge_words_named edge fits.0) (edge_step line schema edge fits.0 (omega arith))
    ∙ rows_edges more (line_after line) (adds_edge schema line edge) fits.1 (omega (arith, length-append schema.edges (record { name = edge.name; from = edge.from; to = edge.to; rule = edge.rule; line = line } ∷ [])))
    ∙ ap (λ (es : List EdgeType). Ok (record { schema = record { window = schema.window; objects = schema.objects; edges = es }; rest = []; next = line_behind (line_after line) more })) (append_assoc schema.edges (record { name = edge.name; from = edge.from; to = edge.to; rule = edge.rule; line = line } ∷ []) (edges_from (line_after line) more))

header_named : AreNamed header_words
header_named = (literal (codes "schema") (omega arith) refl, (literal (codes "1") (omega arith) refl, tt))

window_named : (window : ℕ) → window ≤ 31536000 → AreNamed (window_words window)
window_named window fits = (literal (codes "window") (omega arith) refl, (decimal_named window (omega arith), tt))

edges_named : (edges : List EdgeType) → AllByRecursion FitsEdge edges → AllByRecursion AreNamed (map edge_words edges)
edges_named [] fits = tt
edges_named (edge ∷ more) fits = (edge_words_named edge fits.0, edges_named more fits.1)

objects_named : (objects : List ObjectType) (tail : List (List (List ℕ))) → AllByRecursion FitsObject objects → AllByRecursion AreNamed tail → AllByRecursion AreNamed (map object_words objects ++ tail)
objects_named [] tail fits named = named
objects_named (object ∷ more) tail fits named = (object_words_named object fits.0, objects_named more tail fits.1 named)

window_back : (window : ℕ) → window ≤ 31536000 → window_of (window_words window) ≡ Ok window
window_back window fits = number_in_decimal 0 31536000 window (omega arith) (omega arith) fits

part_by : (first second : List (List ℕ)) (rest : List (List ℕ)) (window : ℕ) → AreNamed first → AreNamed second → is_header first ≡ true → window_of second ≡ Ok window
    → part_of (spaced first ∷ spaced second ∷ rest) ≡ rows rest 3 (empty_schema window)
unfolding part_of
part_by first second rest window one two header seconds = rw (said_spaced first one, header, said_spaced second two, seconds) refl

-- what was printed is read as the same schema
pub schema_back : (schema : Schema) → IsSpellable schema → ReadsAs (spelling schema) schema
schema_back schema fits =
    let behind : List (List ℕ) = map spaced (map edge_words schema.edges) in
    let named : AllByRecursion AreNamed (schema_words schema) = (header_named, (window_named schema.window fits.window, objects_named schema.objects (map edge_words schema.edges) fits.each_object (edges_named schema.edges fits.each_edge))) in
    let document : lines (spelling schema) ≡ spaced header_words ∷ spaced (window_words schema.window) ∷ (map spaced (map object_words schema.objects) ++ behind)
    = lines_printed (schema_words schema) named
    ∙ ap (λ (rest : List (List ℕ)). spaced header_words ∷ spaced (window_words schema.window) ∷ rest) (map-append spaced (map object_words schema.objects) (map edge_words schema.edges)) in
    let whole : part_of (lines (spelling schema)) ≡ Ok (record { schema = printed_schema schema; rest = []; next = line_behind (line_behind 3 schema.objects) schema.edges })
    = ap part_of document
    ∙ part_by header_words (window_words schema.window) (map spaced (map object_words schema.objects) ++ behind) schema.window header_named (window_named schema.window fits.window) refl (window_back schema.window fits.window)
    ∙ rows_objects schema.objects behind 3 (empty_schema schema.window) fits.each_object (omega (arith, fits.objects))
    ∙ rows_edges schema.edges (line_behind 3 schema.objects) (record { window = schema.window; objects = objects_from 3 schema.objects; edges = [] }) fits.each_edge (omega (arith, fits.edges)) in
    rw whole refl
