-- A schema that was read can be spelled.
use Rattle.std.proofs.Common.{◌≡◌, ℕ, ◌≤◌, Bool, true, false, cond, eqb, leb, ltb, Option, Some, None, Result, Ok, Err, List, [], ◌∷◌, ◌++◌, length, refl, arith, length-append, le-leb}
use Rattle.std.specs.Prelude.{◌&&◌, not, codes, IfOk}
use Rattle.std.specs.List.{list_all, AllByRecursion}
use Rattle.std.specs.Str.{bytes_eq}
use Rattle.std.proofs.lemmas.Bool.{leb-true, ltb-true, eqb-false, not-true}
use Rattle.delf_model.specs.Names.{IsName, is_name_code}
use Rattle.delf_model.specs.declared.schema.ObjectRule.{ObjectRule}
use Rattle.delf_model.specs.declared.schema.ObjectRule.TheVariants.{Directly, DirectlyOnly, ByAny, NotDeleted}
use Rattle.delf_model.specs.declared.schema.EdgeRule.{EdgeRule}
use Rattle.delf_model.specs.declared.schema.ObjectType.{ObjectType}
use Rattle.delf_model.specs.declared.schema.EdgeType.{EdgeType}
use Rattle.delf_model.specs.declared.schema.Schema.{Schema}
use Rattle.schema_lang.specs.declared.why.Why.{Why}
use Rattle.schema_lang.specs.declared.why.Why.TheVariants.{Malformed, OutOfRange}
use Rattle.schema_lang.specs.declared.row.Row.{Row}
use Rattle.schema_lang.specs.declared.row.Row.TheVariants.{Script, Object, Edge}
use Rattle.schema_lang.specs.declared.parse.Step.{Step}
use Rattle.schema_lang.specs.declared.parse.Step.TheVariants.{Ended, More}
use Rattle.schema_lang.specs.declared.fault.SchemaFault.{SchemaFault}
use Rattle.schema_lang.specs.declared.parse.SchemaPart.{SchemaPart}
use Rattle.schema_lang.specs.Words.{line_of}
use Rattle.schema_lang.specs.Numbers.{is_number, number_value, number_in, name_in}
use Rattle.schema_lang.specs.Rows.{row_of, why_of, worse, unless, plain_rule, ttl_of, edge_rule, object_row, edge_row, names_why, window_of}
use Rattle.schema_lang.specs.Grammar.{Part, Fault, Gives, rows, part_of, said_at, said_by, step_of, row_at, goes_on, behind_step, with_object, with_edge, at_line, line_after, first_said, owed, header, empty_schema, ◌>>=◌}
use Rattle.schema_lang.specs.Views.{part_view}
use Rattle.delf_model.specs.Checked.{IsExpiry}
use Rattle.schema_lang.specs.Spelling.{IsSpellable, FitsObject, FitsEdge}
use Rattle.schema_lang.proofs.PrintLemmas.{both_true}

-- a fact of an Ok
abbrev OfOk : {A E : Type 0} → (A → Type 0) → Result A E → Type 0
OfOk P (Ok x) = P x
OfOk P (Err e) = Unit {0}

of_cond : {A E : Type 0} (P : A → Type 0) (b : Bool) (x y : Result A E) → (b ≡ true → OfOk P x) → OfOk P y → OfOk P (cond b x y)
of_cond P true x y one other = one refl
of_cond P false x y one other = other

number_fits : (least greatest : ℕ) (text : List ℕ) → OfOk (λ n. (least ≤ n) × (n ≤ greatest)) (number_in least greatest text)
number_fits least greatest text =
    of_cond (λ n. (least ≤ n) × (n ≤ greatest)) (is_number text) _ (Err Malformed)
    (λ number. of_cond (λ n. (least ≤ n) × (n ≤ greatest)) (leb least (number_value text) && leb (number_value text) greatest) (Ok (number_value text)) (Err OutOfRange)
    (λ within. let parts = both_true (leb least (number_value text)) (leb (number_value text) greatest) within in (leb-true least (number_value text) parts.0, leb-true (number_value text) greatest parts.1)) tt)
    tt

plain_fits : (text : List ℕ) → OfOk IsExpiry (plain_rule text)
plain_fits text =
    of_cond IsExpiry (bytes_eq text (codes "directly")) (Ok Directly) _ (λ _. tt)
    (of_cond IsExpiry (bytes_eq text (codes "directly_only")) (Ok DirectlyOnly) _ (λ _. tt)
    (of_cond IsExpiry (bytes_eq text (codes "by_any")) (Ok ByAny) _ (λ _. tt)
    (of_cond IsExpiry (bytes_eq text (codes "not_deleted")) (Ok NotDeleted) (Err Malformed) (λ _. tt) tt)))

ttl_fits : (seconds : Result ℕ Why) → OfOk (λ n. (1 ≤ n) × (n ≤ 7776000)) seconds → OfOk IsExpiry (ttl_of seconds)
ttl_fits (Ok seconds) fits = fits
ttl_fits (Err why) fits = tt

name_by : (some named short : Bool) (text : List ℕ) → why_of (cond (some && named) (cond short (Ok text) (Err OutOfRange)) (Err Malformed)) ≡ None → (some ≡ true) × (named ≡ true) × (short ≡ true)
name_by true true true text none = (refl, refl, refl)
name_by true true false text none = cc
name_by true false short text none = cc
name_by false named short text none = cc

pub name_fits : (text : List ℕ) → why_of (name_in text) ≡ None → IsName text
name_fits text none =
    let parts = name_by (not (eqb (length text) 0)) (list_all is_name_code text) (leb (length text) 32) text none in
    rw (le-leb 1 (length text) (omega (arith, eqb-false (length text) 0 (not-true _ parts.0))), parts.2, parts.1) refl

worse_none : (one other : Option Why) → worse one other ≡ None → (one ≡ None) × (other ≡ None)
worse_none None other none = (refl, none)
worse_none (Some Malformed) other none = cc
worse_none (Some OutOfRange) None none = cc
worse_none (Some OutOfRange) (Some why) none = cc

abbrev FitsRow : Row → Type 0
FitsRow Script = Unit {0}
FitsRow (Object object) = FitsObject object
FitsRow (Edge edge) = FitsEdge edge

unless_fits : (why : Option Why) (row : Row) → (why ≡ None → FitsRow row) → OfOk FitsRow (unless why row)
unless_fits None row fits = fits refl
unless_fits (Some why) row fits = tt

object_row_fits : (line : ℕ) (name : List ℕ) (rule : Result ObjectRule Why) → OfOk IsExpiry rule → OfOk FitsRow (object_row line name rule)
object_row_fits line name (Ok rule) fits = unless_fits (why_of (name_in name)) (Object (record { name = name; rule = rule; line = line })) (λ none. record { name = name_fits name none; rule = fits })
object_row_fits line name (Err why) fits = unless_fits (worse (why_of (name_in name)) (Some why)) Script (λ _. tt)

edge_row_fits : (line : ℕ) (name source target : List ℕ) (rule : Result EdgeRule Why) → OfOk FitsRow (edge_row line name source target rule)
edge_row_fits line name source target (Ok rule) =
    unless_fits (names_why name source target) (Edge (record { name = name; from = source; to = target; rule = rule; line = line }))
    (λ none.
    let first = worse_none (why_of (name_in name)) (worse (why_of (name_in source)) (why_of (name_in target))) none in
    let others = worse_none (why_of (name_in source)) (why_of (name_in target)) first.1 in
    record { name = name_fits name first.0; source = name_fits source others.0; target = name_fits target others.1 })
edge_row_fits line name source target (Err why) = tt

row_fits : (line : ℕ) (words : List (List ℕ)) → OfOk FitsRow (row_of line words)
unfolding row_of
row_fits line [] = tt
row_fits line (a ∷ []) = of_cond FitsRow (bytes_eq a (codes "script")) (Ok Script) (Err Malformed) (λ _. tt) tt
row_fits line (a ∷ b ∷ []) = tt
row_fits line (a ∷ b ∷ c ∷ []) = of_cond FitsRow (bytes_eq a (codes "object")) (object_row line b (plain_rule c)) (Err Malformed) (λ _. object_row_fits line b (plain_rule c) (plain_fits c)) tt
row_fits line (a ∷ b ∷ c ∷ d ∷ []) =
    of_cond FitsRow (bytes_eq a (codes "object") && bytes_eq c (codes "short_ttl")) (object_row line b (ttl_of (number_in 1 7776000 d))) (Err Malformed)
    (λ _. object_row_fits line b (ttl_of (number_in 1 7776000 d)) (ttl_fits (number_in 1 7776000 d) (number_fits 1 7776000 d))) tt
row_fits line (a ∷ b ∷ c ∷ d ∷ e ∷ []) = of_cond FitsRow (bytes_eq a (codes "edge")) (edge_row line b c d (edge_rule e)) (Err Malformed) (λ _. edge_row_fits line b c d (edge_rule e)) tt
row_fits line (a ∷ b ∷ c ∷ d ∷ e ∷ f ∷ more) = tt

below : (n : Result ℕ Why) → OfOk (λ n. (0 ≤ n) × (n ≤ 31536000)) n → OfOk (λ n. n ≤ 31536000) n
below (Ok n) fits = fits.1
below (Err why) fits = tt

window_fits : (words : List (List ℕ)) → OfOk (λ n. n ≤ 31536000) (window_of words)
window_fits [] = tt
window_fits (a ∷ []) = tt
window_fits (a ∷ b ∷ []) = of_cond (λ n. n ≤ 31536000) (bytes_eq a (codes "window")) (number_in 0 31536000 b) (Err Malformed) (λ _. below (number_in 0 31536000 b) (number_fits 0 31536000 b)) tt
window_fits (a ∷ b ∷ c ∷ more) = tt

pub all_push : {A : Type 0} (P : A → Type 0) (xs : List A) (x : A) → AllByRecursion P xs → P x → AllByRecursion P (xs ++ x ∷ [])
all_push P [] x all one = (one, tt)
all_push P (y ∷ xs) x all one = (all.0, all_push P xs x all.1 one)

object_fits : (schema : Schema) (object : ObjectType) → IsSpellable schema → FitsObject object → OfOk IsSpellable (with_object schema object)
object_fits schema object fits one =
    of_cond IsSpellable (ltb (length schema.objects) 64) (Ok (record { window = schema.window; objects = schema.objects ++ object ∷ []; edges = schema.edges })) (Err OutOfRange)
    (λ room. record {
      window = fits.window;
      objects = omega (arith, length-append schema.objects (object ∷ []), ltb-true (length schema.objects) 64 room);
      edges = fits.edges;
      each_object = all_push FitsObject schema.objects object fits.each_object one;
      each_edge = fits.each_edge;
    }) tt

edge_fits : (schema : Schema) (edge : EdgeType) → IsSpellable schema → FitsEdge edge → OfOk IsSpellable (with_edge schema edge)
edge_fits schema edge fits one =
    of_cond IsSpellable (ltb (length schema.edges) 256) (Ok (record { window = schema.window; objects = schema.objects; edges = schema.edges ++ edge ∷ [] })) (Err OutOfRange)
    (λ room. record {
      window = fits.window;
      objects = fits.objects;
      edges = omega (arith, length-append schema.edges (edge ∷ []), ltb-true (length schema.edges) 256 room);
      each_object = fits.each_object;
      each_edge = all_push FitsEdge schema.edges edge fits.each_edge one;
    }) tt

abbrev FitsStep : Step → Type 0
FitsStep (Ended schema) = IsSpellable schema
FitsStep (More schema) = IsSpellable schema

goes_fits : (line : ℕ) (next : Result Schema Why) → OfOk IsSpellable next → OfOk FitsStep (goes_on (at_line line next))
goes_fits line (Ok schema) fits = fits
goes_fits line (Err why) fits = tt

row_at_fits : (line : ℕ) (schema : Schema) (row : Row) → IsSpellable schema → FitsRow row → OfOk FitsStep (row_at line schema row)
row_at_fits line schema Script fits one = fits
row_at_fits line schema (Object object) fits one = goes_fits line (with_object schema object) (object_fits schema object fits one)
row_at_fits line schema (Edge edge) fits one = goes_fits line (with_edge schema edge) (edge_fits schema edge fits one)

step_by_fits : (line : ℕ) (schema : Schema) (row : Result Row Why) → IsSpellable schema → OfOk FitsRow row → OfOk FitsStep (at_line line row >>= row_at line schema)
step_by_fits line schema (Ok row) fits one = row_at_fits line schema row fits one
step_by_fits line schema (Err why) fits one = tt

abbrev FitsPart : Part → Type 0
FitsPart part = IsSpellable part.schema

behind_fits : (line : ℕ) (rest : List (List ℕ)) (more : Schema → Result Part Fault) (step : Result Step Fault) → OfOk FitsStep step → ((next : Schema) → IsSpellable next → OfOk FitsPart (more next))
    → OfOk FitsPart (step >>= behind_step line rest more)
behind_fits line rest more (Ok (Ended schema)) fits later = fits
behind_fits line rest more (Ok (More schema)) fits later = later schema fits
behind_fits line rest more (Err fault) fits later = tt

said_fits : (line : ℕ) (schema : Schema) (rest : List (List ℕ)) (more : Schema → Result Part Fault) (said : Option (List (List ℕ))) → IsSpellable schema
    → ((next : Schema) → IsSpellable next → OfOk FitsPart (more next)) → OfOk FitsPart (said_at line schema rest more said)
said_fits line schema rest more None fits later = later schema fits
said_fits line schema rest more (Some words) fits later =
    behind_fits line rest more (step_of line schema words) (step_by_fits line schema (row_of line words) fits (row_fits line words)) later

rows_fit : (lines' : List (List ℕ)) (line : ℕ) (schema : Schema) → IsSpellable schema → OfOk FitsPart (rows lines' line schema)
unfolding rows
rows_fit [] line schema fits = fits
rows_fit (text ∷ rest) line schema fits = said_fits line schema rest (rows rest (line_after line)) (said_by (line_of text)) fits (λ next more. rows_fit rest (line_after line) next more)

behind : {A : Type 0} (r : Result A Fault) (f : A → Result Part Fault) → ((x : A) → OfOk FitsPart (f x)) → OfOk FitsPart (r >>= f)
behind (Ok x) f each = each x
behind (Err fault) f each = tt

pub empty_fits : (window : ℕ) → window ≤ 31536000 → IsSpellable (empty_schema window)
empty_fits window fits = record { window = fits; objects = omega arith; edges = omega arith; each_object = tt; each_edge = tt }

behind_window : (line : ℕ) (window : Result ℕ Why) (f : ℕ → Result Part Fault) → OfOk (λ n. n ≤ 31536000) window → ((n : ℕ) → n ≤ 31536000 → OfOk FitsPart (f n)) → OfOk FitsPart (at_line line window >>= f)
behind_window line (Ok n) f fits each = each n fits
behind_window line (Err why) f fits each = tt

part_fits : (document : List (List ℕ)) → OfOk FitsPart (part_of document)
unfolding part_of
part_fits document =
    behind (owed (first_said 1 document)) _ (λ first. behind (header first) _ (λ second.
    behind_window second.number (window_of second.words) _ (window_fits second.words) (λ window fits. rows_fit second.rest (line_after second.number) (empty_schema window) (empty_fits window fits))))

-- what the parser gives can be spelled
pub parsed_fits : (document : List (List ℕ)) (read : Result SchemaPart SchemaFault) → Gives part_view read (part_of document) → IfOk read (λ part. IsSpellable part.schema)
parsed_fits document (Ok part) gives = let fits : OfOk FitsPart (part_of document) = part_fits document in rw gives at fits
parsed_fits document (Err fault) gives = tt
