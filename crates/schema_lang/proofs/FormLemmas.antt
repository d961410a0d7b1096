-- The line forms, limits apart, and what the reader makes of them.
use Rattle.std.proofs.Common.{◌≡◌, ℕ, suc, ◌+◌, ◌-◌, ◌*◌, ◌<◌, ◌≤◌, Bool, true, false, cond, eqb, leb, ltb, Option, Some, None, Result, Ok, Err, List, [], ◌∷◌, ◌++◌, length, map, refl, sym, ap, subst, ◌∙◌, arith, length-append, le-leb, lt-ltb}
use Rattle.std.specs.Prelude.{◌&&◌, ◌||◌, not, codes, option_map}
use Rattle.std.specs.List.{list_all, AllByRecursion}
use Rattle.std.specs.Char.{is_ascii_digit}
use Rattle.std.specs.Str.{bytes_eq}
use Rattle.std.proofs.lemmas.Bool.{eqb-true, eqb-false, leb-true, ltb-true, false_from_ne_true}
use Rattle.std.proofs.lemmas.Slice.Eq.{bytes_eq-Decides}
use Rattle.delf_model.specs.Names.{IsName, is_name_code}
use Rattle.delf_model.specs.declared.schema.ObjectRule.{ObjectRule}
use Rattle.delf_model.specs.declared.schema.ObjectRule.TheVariants.{Directly, DirectlyOnly, ByAny, ShortTtl, NotDeleted}
use Rattle.delf_model.specs.declared.schema.EdgeRule.{EdgeRule}
use Rattle.delf_model.specs.declared.schema.EdgeRule.TheVariants.{Deep, Shallow, Refcount}
use Rattle.delf_model.specs.declared.schema.ObjectType.{ObjectType}
use Rattle.delf_model.specs.declared.schema.EdgeType.{EdgeType}
use Rattle.delf_model.specs.declared.schema.Schema.{Schema}
use Rattle.schema_lang.specs.declared.line.Word.{Word}
use Rattle.schema_lang.specs.declared.line.Word.TheVariants.{Plain, Payload}
use Rattle.schema_lang.specs.declared.why.Why.{Why}
use Rattle.schema_lang.specs.declared.why.Why.TheVariants.{Malformed, OutOfRange}
use Rattle.schema_lang.specs.declared.row.Row.{Row}
use Rattle.schema_lang.specs.declared.row.Row.TheVariants.{Script, Object, Edge}
use Rattle.schema_lang.specs.Numbers.{is_number, number_value, is_name_word}
use Rattle.schema_lang.specs.Rows.{word_text, is_header}
use Rattle.schema_lang.specs.Grammar.{empty_schema}
use Rattle.schema_lang.specs.Forms.{AreDigits, IsNumber, Zero, Decimal, IsNameWord, IsObjectRule, IsDirectly, IsDirectlyOnly, IsByAny, IsShortTtl, IsNotDeleted, IsEdgeRule, IsDeep, IsShallow, IsRefcount, IsObjectLine, IsEdgeLine, Place, First, Second, Rows, Over, Fits, SchemaLine, WindowLine, ObjectLine, EdgeLine, ScriptLine}
use Rattle.schema_lang.proofs.NumberLemmas.{digits_on}
use Rattle.schema_lang.proofs.PrintLemmas.{both_true}
use Rattle.schema_lang.proofs.ReadWords.{OfSome, some_cond}

-- numbers

digit_true : (digit : ℕ) → 48 ≤ digit → digit ≤ 57 → is_ascii_digit digit ≡ true
digit_true digit low high = rw (le-leb 48 digit low, le-leb digit 57 high) refl

digit_bounds : (digit : ℕ) → is_ascii_digit digit ≡ true → (48 ≤ digit) × (digit ≤ 57)
digit_bounds digit is = let parts = both_true (leb 48 digit) (leb digit 57) is in (leb-true 48 digit parts.0, leb-true digit 57 parts.1)

digits_are : (text : List ℕ) (front n : ℕ) → AreDigits front text n → (list_all is_ascii_digit text ≡ true) × (digits_on front text ≡ n)
digits_are [] front n is = (refl, sym is)
digits_are (digit ∷ more) front n is =
    let rest = digits_are more (front * 10 + (digit - 48)) n is.2 in
    (rw (digit_true digit is.0 is.1, rest.0) refl, rest.1)

are_digits : (text : List ℕ) (front : ℕ) → list_all is_ascii_digit text ≡ true → AreDigits front text (digits_on front text)
are_digits [] front is = refl
are_digits (digit ∷ more) front is =
    let parts = both_true (is_ascii_digit digit) (list_all is_ascii_digit more) is in
    let bounds = digit_bounds digit parts.0 in
    (bounds.0, bounds.1, are_digits more (front * 10 + (digit - 48)) parts.1)

pub some_length : (x : ℕ) (xs : List ℕ) → eqb (length (x ∷ xs)) 0 ≡ false
some_length x xs = false_from_ne_true _ (λ same. let none : length (x ∷ xs) ≡ 0 = eqb-true _ 0 same in absurd (omega arith))

number_parts : (none digits leading single : Bool) → none ≡ false → digits ≡ true → leading ≡ false → (not none && digits && (not leading || single)) ≡ true
number_parts none digits leading single some all high = rw (some, all, high) refl

first_value : (first : ℕ) (more : List ℕ) → number_value (first ∷ more) ≡ digits_on (first - 48) more
first_value first more = ap (λ (n : ℕ). digits_on n more) (let e : 0 * 10 + (first - 48) ≡ first - 48 = omega arith in e)

pub number_is : (text : List ℕ) (n : ℕ) → IsNumber text n → (is_number text ≡ true) × (number_value text ≡ n)
number_is text n (Zero is value) = (ap is_number is, ap number_value is ∙ sym value)
number_is text n (Decimal first more is low high digits) =
    let rest = digits_are more (first - 48) n digits in
    let all : list_all is_ascii_digit (first ∷ more) ≡ true = rw (digit_true first (omega arith) high, rest.0) refl in (
      ap is_number is ∙ number_parts (eqb (length (first ∷ more)) 0) (list_all is_ascii_digit (first ∷ more)) (eqb first 48) (eqb (length (first ∷ more)) 1)
          (some_length first more) all (false_from_ne_true _ (λ same. absurd (omega (arith, eqb-true first 48 same)))),
      ap number_value is ∙ first_value first more ∙ rest.1,
    )

leading : (b c : Bool) → (not b || c) ≡ true → b ≡ true → c ≡ true
leading true c is one = is
leading false c is one = cc

number_by : (first : ℕ) (more : List ℕ) (zero : Bool) → eqb first 48 ≡ zero → is_number (first ∷ more) ≡ true → IsNumber (first ∷ more) (number_value (first ∷ more))
number_by first [] true zero is =
    let e : first ≡ 48 = eqb-true first 48 zero in
    Zero (ap (λ (d : ℕ). d ∷ []) e) (first_value first [] ∙ (let none : first - 48 ≡ 0 = omega arith in none))
number_by first (second ∷ more) true zero is =
    let parts = both_true (not (eqb (length (first ∷ second ∷ more)) 0) && list_all is_ascii_digit (first ∷ second ∷ more)) (not (eqb first 48) || eqb (length (first ∷ second ∷ more)) 1) is in
    let single : length (first ∷ second ∷ more) ≡ 1 = eqb-true _ 1 (leading (eqb first 48) _ parts.1 zero) in
    absurd (omega arith)
number_by first more false zero is =
    let parts = both_true (not (eqb (length (first ∷ more)) 0) && list_all is_ascii_digit (first ∷ more)) (not (eqb first 48) || eqb (length (first ∷ more)) 1) is in
    let others = both_true (not (eqb (length (first ∷ more)) 0)) (list_all is_ascii_digit (first ∷ more)) parts.0 in
    let digits = both_true (is_ascii_digit first) (list_all is_ascii_digit more) others.1 in
    let bounds = digit_bounds first digits.0 in
    Decimal first more refl (omega (arith, bounds.0, eqb-false first 48 zero)) bounds.1
    (subst (AreDigits (first - 48) more) (sym (first_value first more)) (are_digits more (first - 48) digits.1))

pub is_number_of : (text : List ℕ) → is_number text ≡ true → IsNumber text (number_value text)
is_number_of [] is = cc
is_number_of (first ∷ more) is = number_by first more (eqb first 48) refl is

-- names

pub name_is : (text : List ℕ) → IsNameWord text → is_name_word text ≡ true
name_is [] named = let some : 1 ≤ 0 = named.some in absurd (omega arith)
name_is (byte ∷ more) named = rw (some_length byte more, named.each) refl

pub is_name_of : (text : List ℕ) → is_name_word text ≡ true → IsNameWord text
is_name_of [] is = cc
is_name_of (byte ∷ more) is = record { some = omega arith; each = (both_true (not (eqb (length (byte ∷ more)) 0)) (list_all is_name_code (byte ∷ more)) is).1 }

-- words

pub plain_word : (word : Word) (text : List ℕ) → 1 ≤ length text → bytes_eq (word_text word) text ≡ true → word ≡ Plain text
plain_word (Plain found) text some is = ap Plain ((bytes_eq-Decides found text).0 is)
plain_word (Payload bytes) text some is =
    let none : [] ≡ text = (bytes_eq-Decides [] text).0 is in
    let count : 0 ≡ length text = ap (λ (l : List ℕ). length l) none in absurd (omega arith)

pub named_word : (word : Word) → is_name_word (word_text word) ≡ true → word ≡ Plain (word_text word)
named_word (Plain text) is = refl
named_word (Payload bytes) is = cc

pub number_word : (word : Word) → is_number (word_text word) ≡ true → word ≡ Plain (word_text word)
number_word (Plain text) is = refl
number_word (Payload bytes) is = cc

-- what words mean, limits apart

abbrev pub raw_number : List ℕ → Option ℕ
raw_number text = cond (is_number text) (Some (number_value text)) None

abbrev pub raw_plain : List ℕ → Option ObjectRule
raw_plain text =
    cond (bytes_eq text (codes "directly")) (Some Directly)
    (cond (bytes_eq text (codes "directly_only")) (Some DirectlyOnly)
    (cond (bytes_eq text (codes "by_any")) (Some ByAny)
    (cond (bytes_eq text (codes "not_deleted")) (Some NotDeleted) None)))

abbrev pub raw_ttl : List ℕ → Option ObjectRule
raw_ttl text = option_map (λ seconds. ShortTtl seconds) (raw_number text)

abbrev pub raw_edge_rule : List ℕ → Option EdgeRule
raw_edge_rule text =
    cond (bytes_eq text (codes "deep")) (Some Deep)
    (cond (bytes_eq text (codes "shallow")) (Some Shallow)
    (cond (bytes_eq text (codes "refcount")) (Some Refcount) None))

abbrev pub object_of : ℕ → List ℕ → ObjectRule → Row
object_of line name rule = Object (record { name = name; rule = rule; line = line })

abbrev pub edge_of : ℕ → List ℕ → List ℕ → List ℕ → EdgeRule → Row
edge_of line name source target rule = Edge (record { name = name; from = source; to = target; rule = rule; line = line })

abbrev pub raw_object : ℕ → List ℕ → Option ObjectRule → Option Row
raw_object line name rule = cond (is_name_word name) (option_map (object_of line name) rule) None

abbrev pub raw_edge : ℕ → List ℕ → List ℕ → List ℕ → Option EdgeRule → Option Row
raw_edge line name source target rule =
    cond (is_name_word name && (is_name_word source && is_name_word target)) (option_map (edge_of line name source target) rule) None

abbrev pub raw_row : ℕ → List (List ℕ) → Option Row
raw_row line [] = None
raw_row line (k ∷ []) = cond (bytes_eq k (codes "script")) (Some Script) None
raw_row line (k ∷ a ∷ []) = None
raw_row line (k ∷ a ∷ b ∷ []) = cond (bytes_eq k (codes "object")) (raw_object line a (raw_plain b)) None
raw_row line (k ∷ a ∷ b ∷ c ∷ []) = cond (bytes_eq k (codes "object") && bytes_eq b (codes "short_ttl")) (raw_object line a (raw_ttl c)) None
raw_row line (k ∷ a ∷ b ∷ c ∷ d ∷ []) = cond (bytes_eq k (codes "edge")) (raw_edge line a b c (raw_edge_rule d)) None
raw_row line (k ∷ a ∷ b ∷ c ∷ d ∷ e ∷ more) = None

abbrev pub raw_window : List (List ℕ) → Option ℕ
raw_window [] = None
raw_window (k ∷ []) = None
raw_window (k ∷ a ∷ []) = cond (bytes_eq k (codes "window")) (raw_number a) None
raw_window (k ∷ a ∷ b ∷ more) = None

abbrev pub after : Schema → Row → Place
after before Script = Over before
after before (Object object) = Rows (record { window = before.window; objects = before.objects ++ object ∷ []; edges = before.edges })
after before (Edge edge) = Rows (record { window = before.window; objects = before.objects; edges = before.edges ++ edge ∷ [] })

abbrev pub raw : ℕ → Place → List (List ℕ) → Option Place
raw number First texts = cond (is_header texts) (Some Second) None
raw number Second texts = option_map (λ window. Rows (empty_schema window)) (raw_window texts)
raw number (Rows before) texts = option_map (after before) (raw_row number texts)
raw number (Over before) texts = None

-- words that fit mean that

abbrev IsRow : ℕ → List Word → Row → Type 0
IsRow number words Script = words ≡ Plain (codes "script") ∷ []
IsRow number words (Object object) = IsObjectLine number words object
IsRow number words (Edge edge) = IsEdgeLine number words edge

edge_rule_is : (text : List ℕ) (rule : EdgeRule) → IsEdgeRule text rule → raw_edge_rule text ≡ Some rule
edge_rule_is text rule (IsDeep is means) = ap raw_edge_rule is ∙ ap (λ (r : EdgeRule). Some r) (sym means)
edge_rule_is text rule (IsShallow is means) = ap raw_edge_rule is ∙ ap (λ (r : EdgeRule). Some r) (sym means)
edge_rule_is text rule (IsRefcount is means) = ap raw_edge_rule is ∙ ap (λ (r : EdgeRule). Some r) (sym means)

abbrev object_texts : List ℕ → List Word → List (List ℕ)
object_texts name behind = codes "object" ∷ name ∷ map word_text behind

object_is : (number : ℕ) (name : List ℕ) (behind : List Word) (rule : ObjectRule) → is_name_word name ≡ true → IsObjectRule behind rule
    → raw_row number (object_texts name behind) ≡ Some (object_of number name rule)
object_is number name behind rule named (IsDirectly is means) =
    ap (λ (ws : List Word). raw_row number (object_texts name ws)) is ∙ (rw (named, means) refl)
object_is number name behind rule named (IsDirectlyOnly is means) =
    ap (λ (ws : List Word). raw_row number (object_texts name ws)) is ∙ (rw (named, means) refl)
object_is number name behind rule named (IsByAny is means) =
    ap (λ (ws : List Word). raw_row number (object_texts name ws)) is ∙ (rw (named, means) refl)
object_is number name behind rule named (IsShortTtl text seconds is digits means) =
    let n = number_is text seconds digits in
    ap (λ (ws : List Word). raw_row number (object_texts name ws)) is ∙ (rw (named, means, n.0, n.1) refl)
object_is number name behind rule named (IsNotDeleted is means) =
    ap (λ (ws : List Word). raw_row number (object_texts name ws)) is ∙ (rw (named, means) refl)

row_is : (number : ℕ) (words : List Word) (row : Row) → IsRow number words row → raw_row number (map word_text words) ≡ Some row
row_is number words Script is = ap (λ (ws : List Word). raw_row number (map word_text ws)) is
row_is number words (Object object) is =
    ap (λ (ws : List Word). raw_row number (map word_text ws)) is.are
    ∙ object_is number is.name is.behind is.rule (name_is is.name is.named) is.ruled
    ∙ ap (λ (o : ObjectType). Some (Object o)) (sym is.means)
row_is number words (Edge edge) is =
    ap (λ (ws : List Word). raw_row number (map word_text ws)) is.are
    ∙ (rw (name_is is.name is.named, name_is is.source is.source_named, name_is is.target is.target_named, edge_rule_is is.text is.rule is.ruled) refl)
    ∙ ap (λ (e : EdgeType). Some (Edge e)) (sym is.means)

pub fits_raw : (number : ℕ) (words : List Word) (place next : Place) → Fits number words place next → raw number place (map word_text words) ≡ Some next
fits_raw number words place next (SchemaLine is) = ap (λ (ws : List Word). raw number First (map word_text ws)) is
fits_raw number words place next (WindowLine text window is digits) =
    let n = number_is text window digits in
    ap (λ (ws : List Word). raw number Second (map word_text ws)) is ∙ (rw (n.0, n.1) refl)
fits_raw number words place next (ObjectLine before object is) = ap (option_map (after before)) (row_is number words (Object object) is)
fits_raw number words place next (EdgeLine before edge is) = ap (option_map (after before)) (row_is number words (Edge edge) is)
fits_raw number words place next (ScriptLine before is) = ap (option_map (after before)) (row_is number words Script is)

-- words that mean that fit

pub some_map : {A B : Type 0} (P : B → Type 0) (f : A → B) (m : Option A) → OfSome (λ x. P (f x)) m → OfSome P (option_map f m)
some_map P f None is = tt
some_map P f (Some x) is = is

some_is : {A : Type 0} (P : A → Type 0) (m : Option A) → ((x : A) → m ≡ Some x → P x) → OfSome P m
some_is P None each = tt
some_is P (Some x) each = each x refl

is_edge_rule : (text : List ℕ) → OfSome (IsEdgeRule text) (raw_edge_rule text)
is_edge_rule text =
    some_cond (IsEdgeRule text) (bytes_eq text (codes "deep")) _ _ (λ is. IsDeep ((bytes_eq-Decides text (codes "deep")).0 is) refl)
    (λ _. some_cond (IsEdgeRule text) (bytes_eq text (codes "shallow")) _ _ (λ is. IsShallow ((bytes_eq-Decides text (codes "shallow")).0 is) refl)
    (λ _. some_cond (IsEdgeRule text) (bytes_eq text (codes "refcount")) _ _ (λ is. IsRefcount ((bytes_eq-Decides text (codes "refcount")).0 is) refl) (λ _. tt)))

one : (word : Word) (text : List ℕ) → 1 ≤ length text → bytes_eq (word_text word) text ≡ true → word ∷ [] ≡ Plain text ∷ []
one word text some is = ap (λ (w : Word). w ∷ []) (plain_word word text some is)

is_plain_rule : (word : Word) → OfSome (IsObjectRule (word ∷ [])) (raw_plain (word_text word))
is_plain_rule word =
    some_cond (IsObjectRule (word ∷ [])) (bytes_eq (word_text word) (codes "directly")) _ _ (λ is. IsDirectly (one word (codes "directly") (omega arith) is) refl)
    (λ _. some_cond (IsObjectRule (word ∷ [])) (bytes_eq (word_text word) (codes "directly_only")) _ _ (λ is. IsDirectlyOnly (one word (codes "directly_only") (omega arith) is) refl)
    (λ _. some_cond (IsObjectRule (word ∷ [])) (bytes_eq (word_text word) (codes "by_any")) _ _ (λ is. IsByAny (one word (codes "by_any") (omega arith) is) refl)
    (λ _. some_cond (IsObjectRule (word ∷ [])) (bytes_eq (word_text word) (codes "not_deleted")) _ _ (λ is. IsNotDeleted (one word (codes "not_deleted") (omega arith) is) refl) (λ _. tt))))

is_ttl_rule : (keyword word : Word) → bytes_eq (word_text keyword) (codes "short_ttl") ≡ true → OfSome (IsObjectRule (keyword ∷ word ∷ [])) (raw_ttl (word_text word))
is_ttl_rule keyword word ttl =
    some_map (IsObjectRule (keyword ∷ word ∷ [])) (λ (seconds : ℕ). ShortTtl seconds) (raw_number (word_text word))
    (some_cond (λ seconds. IsObjectRule (keyword ∷ word ∷ []) (ShortTtl seconds)) (is_number (word_text word)) (Some (number_value (word_text word))) None
    (λ is.
    let first = plain_word keyword (codes "short_ttl") (omega arith) ttl in
    let second = number_word word is in
    IsShortTtl (word_text word) (number_value (word_text word)) (ap (λ (w : Word). w ∷ word ∷ []) first ∙ ap (λ (w : Word). Plain (codes "short_ttl") ∷ w ∷ []) second)
    (is_number_of (word_text word) is) refl)
    (λ _. tt))

is_object : (number : ℕ) (keyword name : Word) (behind : List Word) (rule : Option ObjectRule) → bytes_eq (word_text keyword) (codes "object") ≡ true
    → OfSome (IsObjectRule behind) rule → OfSome (IsRow number (keyword ∷ name ∷ behind)) (raw_object number (word_text name) rule)
is_object number keyword name behind None object ruled =
    some_cond (IsRow number (keyword ∷ name ∷ behind)) (is_name_word (word_text name)) None None (λ _. tt) (λ _. tt)
is_object number keyword name behind (Some rule) object ruled =
    some_cond (IsRow number (keyword ∷ name ∷ behind)) (is_name_word (word_text name)) (Some (object_of number (word_text name) rule)) None
    (λ named. record {
      name = word_text name;
      rule = rule;
      behind = behind;
      are = ap (λ (w : Word). w ∷ name ∷ behind) (plain_word keyword (codes "object") (omega arith) object) ∙ ap (λ (w : Word). Plain (codes "object") ∷ w ∷ behind) (named_word name named);
      named = is_name_of (word_text name) named;
      ruled = ruled;
      means = refl;
    })
    (λ _. tt)

is_edge : (number : ℕ) (keyword name source target : Word) (text : List ℕ) (rule : Option EdgeRule) → bytes_eq (word_text keyword) (codes "edge") ≡ true
    → OfSome (IsEdgeRule text) rule → OfSome (IsRow number (keyword ∷ name ∷ source ∷ target ∷ Plain text ∷ [])) (raw_edge number (word_text name) (word_text source) (word_text target) rule)
is_edge number keyword name source target text None edge ruled =
    some_cond (IsRow number (keyword ∷ name ∷ source ∷ target ∷ Plain text ∷ [])) (is_name_word (word_text name) && (is_name_word (word_text source) && is_name_word (word_text target))) None None (λ _. tt) (λ _. tt)
is_edge number keyword name source target text (Some rule) edge ruled =
    some_cond (IsRow number (keyword ∷ name ∷ source ∷ target ∷ Plain text ∷ [])) (is_name_word (word_text name) && (is_name_word (word_text source) && is_name_word (word_text target)))
    (Some (edge_of number (word_text name) (word_text source) (word_text target) rule)) None
    (λ named.
    let parts = both_true (is_name_word (word_text name)) (is_name_word (word_text source) && is_name_word (word_text target)) named in
    let others = both_true (is_name_word (word_text source)) (is_name_word (word_text target)) parts.1 in
    record {
      name = word_text name;
      source = word_text source;
      target = word_text target;
      text = text;
      rule = rule;
      are =
          ap (λ (w : Word). w ∷ name ∷ source ∷ target ∷ Plain text ∷ []) (plain_word keyword (codes "edge") (omega arith) edge)
          ∙ ap (λ (w : Word). Plain (codes "edge") ∷ w ∷ source ∷ target ∷ Plain text ∷ []) (named_word name parts.0)
          ∙ ap (λ (w : Word). Plain (codes "edge") ∷ Plain (word_text name) ∷ w ∷ target ∷ Plain text ∷ []) (named_word source others.0)
          ∙ ap (λ (w : Word). Plain (codes "edge") ∷ Plain (word_text name) ∷ Plain (word_text source) ∷ w ∷ Plain text ∷ []) (named_word target others.1);
      named = is_name_of (word_text name) parts.0;
      source_named = is_name_of (word_text source) others.0;
      target_named = is_name_of (word_text target) others.1;
      ruled = ruled;
      means = refl;
    })
    (λ _. tt)

is_row : (number : ℕ) (words : List Word) → OfSome (IsRow number words) (raw_row number (map word_text words))
is_row number [] = tt
is_row number (k ∷ []) = some_cond (IsRow number (k ∷ [])) (bytes_eq (word_text k) (codes "script")) (Some Script) None (λ is. one k (codes "script") (omega arith) is) (λ _. tt)
is_row number (k ∷ a ∷ []) = tt
is_row number (k ∷ a ∷ b ∷ []) =
    some_cond (IsRow number (k ∷ a ∷ b ∷ [])) (bytes_eq (word_text k) (codes "object")) (raw_object number (word_text a) (raw_plain (word_text b))) None
    (λ is. is_object number k a (b ∷ []) (raw_plain (word_text b)) is (is_plain_rule b)) (λ _. tt)
is_row number (k ∷ a ∷ b ∷ c ∷ []) =
    some_cond (IsRow number (k ∷ a ∷ b ∷ c ∷ [])) (bytes_eq (word_text k) (codes "object") && bytes_eq (word_text b) (codes "short_ttl")) (raw_object number (word_text a) (raw_ttl (word_text c))) None
    (λ is. let parts = both_true (bytes_eq (word_text k) (codes "object")) (bytes_eq (word_text b) (codes "short_ttl")) is in
    is_object number k a (b ∷ c ∷ []) (raw_ttl (word_text c)) parts.0 (is_ttl_rule b c parts.1)) (λ _. tt)
is_row number (k ∷ a ∷ b ∷ c ∷ Plain text ∷ []) =
    some_cond (IsRow number (k ∷ a ∷ b ∷ c ∷ Plain text ∷ [])) (bytes_eq (word_text k) (codes "edge")) (raw_edge number (word_text a) (word_text b) (word_text c) (raw_edge_rule text)) None
    (λ is. is_edge number k a b c text (raw_edge_rule text) is (is_edge_rule text)) (λ _. tt)
is_row number (k ∷ a ∷ b ∷ c ∷ Payload bytes ∷ []) =
    some_cond (IsRow number (k ∷ a ∷ b ∷ c ∷ Payload bytes ∷ [])) (bytes_eq (word_text k) (codes "edge")) (raw_edge number (word_text a) (word_text b) (word_text c) None) None
    (λ is. some_cond (IsRow number (k ∷ a ∷ b ∷ c ∷ Payload bytes ∷ [])) (is_name_word (word_text a) && (is_name_word (word_text b) && is_name_word (word_text c))) None None (λ _. tt) (λ _. tt)) (λ _. tt)
is_row number (k ∷ a ∷ b ∷ c ∷ d ∷ e ∷ more) = tt

row_fits : (number : ℕ) (words : List Word) (before : Schema) (row : Row) → IsRow number words row → Fits number words (Rows before) (after before row)
row_fits number words before Script is = ScriptLine before is
row_fits number words before (Object object) is = ObjectLine before object is
row_fits number words before (Edge edge) is = EdgeLine before edge is

some_more : {A : Type 0} (P Q : A → Type 0) (m : Option A) → ((x : A) → P x → Q x) → OfSome P m → OfSome Q m
some_more P Q None more is = tt
some_more P Q (Some x) more is = more x is

raw_header : (number : ℕ) (words : List Word) → OfSome (Fits number words First) (raw number First (map word_text words))
raw_header number [] = tt
raw_header number (k ∷ []) = tt
raw_header number (k ∷ a ∷ []) =
    some_cond (Fits number (k ∷ a ∷ []) First) (bytes_eq (word_text k) (codes "schema") && bytes_eq (word_text a) (codes "1")) (Some Second) None
    (λ is. let parts = both_true (bytes_eq (word_text k) (codes "schema")) (bytes_eq (word_text a) (codes "1")) is in
    SchemaLine (ap (λ (w : Word). w ∷ a ∷ []) (plain_word k (codes "schema") (omega arith) parts.0) ∙ ap (λ (w : Word). Plain (codes "schema") ∷ w ∷ []) (plain_word a (codes "1") (omega arith) parts.1)))
    (λ _. tt)
raw_header number (k ∷ a ∷ b ∷ more) = tt

window_fits : (number : ℕ) (words : List Word) → OfSome (λ window. Fits number words Second (Rows (empty_schema window))) (raw_window (map word_text words))
window_fits number [] = tt
window_fits number (k ∷ []) = tt
window_fits number (k ∷ a ∷ []) =
    some_cond (λ window. Fits number (k ∷ a ∷ []) Second (Rows (empty_schema window))) (bytes_eq (word_text k) (codes "window")) (raw_number (word_text a)) None
    (λ keyword. some_cond (λ window. Fits number (k ∷ a ∷ []) Second (Rows (empty_schema window))) (is_number (word_text a)) (Some (number_value (word_text a))) None
    (λ is. WindowLine (word_text a) (number_value (word_text a))
    (ap (λ (w : Word). w ∷ a ∷ []) (plain_word k (codes "window") (omega arith) keyword) ∙ ap (λ (w : Word). Plain (codes "window") ∷ w ∷ []) (number_word a is))
    (is_number_of (word_text a) is)) (λ _. tt)) (λ _. tt)
window_fits number (k ∷ a ∷ b ∷ more) = tt

raw_spells : (number : ℕ) (words : List Word) (place : Place) → OfSome (Fits number words place) (raw number place (map word_text words))
raw_spells number words First = raw_header number words
raw_spells number words Second = some_map (Fits number words Second) (λ window. Rows (empty_schema window)) (raw_window (map word_text words)) (window_fits number words)
raw_spells number words (Rows before) =
    some_map (Fits number words (Rows before)) (after before) (raw_row number (map word_text words))
    (some_more (IsRow number words) (λ row. Fits number words (Rows before) (after before row)) (raw_row number (map word_text words)) (λ row is. row_fits number words before row is) (is_row number words))
raw_spells number words (Over before) = tt

pub raw_fits : (number : ℕ) (words : List Word) (place next : Place) → raw number place (map word_text words) ≡ Some next → Fits number words place next
raw_fits number words place next is = subst (OfSome (Fits number words place)) is (raw_spells number words place)
