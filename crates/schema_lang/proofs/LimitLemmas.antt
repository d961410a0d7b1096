-- The limits of the line forms: a line that fits and passes one is out of range, and one that fits none is malformed.
use Rattle.std.proofs.Common.{◌≡◌, ℕ, ◌+◌, ◌<◌, ◌≤◌, Bool, true, false, cond, eqb, leb, ltb, Option, Some, None, Result, Ok, Err, List, [], ◌∷◌, ◌++◌, length, refl, sym, ap, subst, ◌∙◌, arith, length-append, le-leb, lt-ltb}
use Rattle.std.specs.Prelude.{◌&&◌, not, codes, option_map}
use Rattle.std.specs.List.{list_all, AllByRecursion}
use Rattle.std.specs.Str.{bytes_eq}
use Rattle.std.proofs.lemmas.Bool.{leb-true, ltb-true}
use Rattle.delf_model.specs.Names.{IsName, is_name_code}
use Rattle.delf_model.specs.declared.schema.ObjectRule.{ObjectRule}
use Rattle.delf_model.specs.declared.schema.ObjectRule.TheVariants.{Directly, DirectlyOnly, ByAny, ShortTtl, NotDeleted}
use Rattle.delf_model.specs.declared.schema.EdgeRule.{EdgeRule}
use Rattle.delf_model.specs.declared.schema.EdgeRule.TheVariants.{Deep, Shallow, Refcount}
use Rattle.delf_model.specs.declared.schema.ObjectType.{ObjectType}
use Rattle.delf_model.specs.declared.schema.EdgeType.{EdgeType}
use Rattle.delf_model.specs.declared.schema.Schema.{Schema}
use Rattle.schema_lang.specs.declared.why.Why.{Why}
use Rattle.schema_lang.specs.declared.why.Why.TheVariants.{Malformed, OutOfRange}
use Rattle.schema_lang.specs.declared.row.Row.{Row}
use Rattle.schema_lang.specs.declared.row.Row.TheVariants.{Script, Object, Edge}
use Rattle.schema_lang.specs.Numbers.{is_number, number_value, number_in, is_name_word, name_in}
use Rattle.schema_lang.specs.Rows.{row_of, why_of, worse, unless, plain_rule, ttl_of, edge_rule, object_row, edge_row, names_why, is_header, window_of}
use Rattle.schema_lang.specs.Grammar.{with_object, with_edge, empty_schema}
use Rattle.delf_model.specs.Checked.{IsExpiry}
use Rattle.schema_lang.specs.Spelling.{IsSpellable, FitsObject, FitsEdge}
use Rattle.schema_lang.specs.Forms.{Place, First, Second, Rows, Over, IsWithin}
use Rattle.schema_lang.proofs.FormLemmas.{raw_number, raw_plain, raw_ttl, raw_edge_rule, object_of, edge_of, raw_object, raw_edge, raw_row, raw_window, after, raw}
use Rattle.schema_lang.proofs.PrintLemmas.{both_true}
use Rattle.schema_lang.proofs.Spellable.{name_fits, all_push, empty_fits}

-- what is read of something: itself within its limits, out of range, or malformed where nothing is there
abbrev pub Limited : {A : Type 0} → (A → Type 0) → Option A → Result A Why → Type 0
Limited Fit there (Ok x) = (there ≡ Some x) × Fit x
Limited {A = A} Fit there (Err OutOfRange) = (x : A) × (there ≡ Some x) × (Fit x → ⊥)
Limited Fit there (Err Malformed) = there ≡ None

limited_if : {A : Type 0} (Fit : A → Type 0) (b : Bool) (m other : Option A) (r rest : Result A Why) → Limited Fit m r → Limited Fit other rest → Limited Fit (cond b m other) (cond b r rest)
limited_if Fit true m other r rest is then = is
limited_if Fit false m other r rest is then = then

limited_range : {A : Type 0} (Fit : A → Type 0) (x : A) (b : Bool) → (b ≡ true → Fit x) → (b ≡ false → Fit x → ⊥) → Limited Fit (Some x) (cond b (Ok x) (Err OutOfRange))
limited_range Fit x true well ill = (refl, well refl)
limited_range Fit x false well ill = (x, refl, ill refl)

abbrev pub IsBetween : ℕ → ℕ → ℕ → Type 0
IsBetween least greatest n = (least ≤ n) × (n ≤ greatest)

pub number_limited : (least greatest : ℕ) (text : List ℕ) → Limited (IsBetween least greatest) (raw_number text) (number_in least greatest text)
number_limited least greatest text =
    limited_if (IsBetween least greatest) (is_number text) (Some (number_value text)) None _ (Err Malformed)
    (limited_range (IsBetween least greatest) (number_value text) (leb least (number_value text) && leb (number_value text) greatest)
    (λ is. let parts = both_true (leb least (number_value text)) (leb (number_value text) greatest) is in (leb-true least (number_value text) parts.0, leb-true (number_value text) greatest parts.1))
    (λ is fits. let well : (leb least (number_value text) && leb (number_value text) greatest) ≡ true = rw (le-leb least (number_value text) fits.0, le-leb (number_value text) greatest fits.1) refl in cc))
    refl

plain_limited : (text : List ℕ) → Limited IsExpiry (raw_plain text) (plain_rule text)
plain_limited text =
    limited_if IsExpiry (bytes_eq text (codes "directly")) (Some Directly) _ (Ok Directly) _ (refl, tt)
    (limited_if IsExpiry (bytes_eq text (codes "directly_only")) (Some DirectlyOnly) _ (Ok DirectlyOnly) _ (refl, tt)
    (limited_if IsExpiry (bytes_eq text (codes "by_any")) (Some ByAny) _ (Ok ByAny) _ (refl, tt)
    (limited_if IsExpiry (bytes_eq text (codes "not_deleted")) (Some NotDeleted) None (Ok NotDeleted) (Err Malformed) (refl, tt) refl)))

ttl_limited : (m : Option ℕ) (r : Result ℕ Why) → Limited (IsBetween 1 7776000) m r → Limited IsExpiry (option_map (λ seconds. ShortTtl seconds) m) (ttl_of r)
ttl_limited m (Ok seconds) is = (ap (option_map (λ (s : ℕ). ShortTtl s)) is.0, is.1)
ttl_limited m (Err OutOfRange) is = (ShortTtl is.0, ap (option_map (λ (s : ℕ). ShortTtl s)) is.1, is.2)
ttl_limited m (Err Malformed) is = ap (option_map (λ (s : ℕ). ShortTtl s)) is

-- what is wrong with names
abbrev pub Wronged : Bool → Type 0 → Option Why → Type 0
Wronged named short None = (named ≡ true) × short
Wronged named short (Some OutOfRange) = (named ≡ true) × (short → ⊥)
Wronged named short (Some Malformed) = named ≡ false

pub name_short : (text : List ℕ) → IsName text → length text ≤ 32
name_short text is =
    let parts = both_true (leb 1 (length text) && leb (length text) 32) (list_all is_name_code text) is in
    let bounds = both_true (leb 1 (length text)) (leb (length text) 32) parts.0 in
    leb-true (length text) 32 bounds.1

name_by : (named short : Bool) (text : List ℕ) (Fits : Type 0) → (why_of (cond named (cond short (Ok text) (Err OutOfRange)) (Err Malformed)) ≡ None → Fits) → (short ≡ false → Fits → ⊥)
    → Wronged named Fits (why_of (cond named (cond short (Ok text) (Err OutOfRange)) (Err Malformed)))
name_by true true text Fits well ill = (refl, well refl)
name_by true false text Fits well ill = (refl, ill refl)
name_by false short text Fits well ill = refl

pub name_wronged : (text : List ℕ) → Wronged (is_name_word text) (IsName text) (why_of (name_in text))
name_wronged text =
    name_by (is_name_word text) (leb (length text) 32) text (IsName text) (name_fits text)
    (λ long fits. let well : leb (length text) 32 ≡ true = le-leb (length text) 32 (name_short text fits) in cc)

wronged_both : (a b : Bool) (P Q : Type 0) (one other : Option Why) → Wronged a P one → Wronged b Q other → Wronged (a && b) (P × Q) (worse one other)
wronged_both a b P Q None None is then = (rw (is.0, then.0) refl, (is.1, then.1))
wronged_both a b P Q None (Some OutOfRange) is then = (rw (is.0, then.0) refl, λ both. then.1 both.1)
wronged_both a b P Q None (Some Malformed) is then = rw (is.0, then) refl
wronged_both a b P Q (Some Malformed) other is then = rw is refl
wronged_both a b P Q (Some OutOfRange) None is then = (rw (is.0, then.0) refl, λ both. is.1 both.0)
wronged_both a b P Q (Some OutOfRange) (Some OutOfRange) is then = (rw (is.0, then.0) refl, λ both. is.1 both.0)
wronged_both a b P Q (Some OutOfRange) (Some Malformed) is then = rw (is.0, then) refl

abbrev pub FitsRow : Row → Type 0
FitsRow Script = Unit {0}
FitsRow (Object object) = FitsObject object
FitsRow (Edge edge) = FitsEdge edge

module _ (line : ℕ) (name : List ℕ) (m : Option ObjectRule) where
  object_ok : (rule : ObjectRule) (wrong : Option Why) → m ≡ Some rule → IsExpiry rule → Wronged (is_name_word name) (IsName name) wrong
      → Limited FitsRow (raw_object line name m) (unless wrong (object_of line name rule))
  object_ok rule None is fits named = (rw (named.0, is) refl, record { name = named.1; rule = fits })
  object_ok rule (Some OutOfRange) is fits named = (object_of line name rule, rw (named.0, is) refl, λ row. named.1 row.name)
  object_ok rule (Some Malformed) is fits named = rw named refl

  object_long : (rule : ObjectRule) (wrong : Option Why) → m ≡ Some rule → (IsExpiry rule → ⊥) → Wronged (is_name_word name) (IsName name) wrong
      → Limited FitsRow (raw_object line name m) (unless (worse wrong (Some OutOfRange)) Script)
  object_long rule None is passes named = (object_of line name rule, rw (named.0, is) refl, λ row. passes row.rule)
  object_long rule (Some OutOfRange) is passes named = (object_of line name rule, rw (named.0, is) refl, λ row. passes row.rule)
  object_long rule (Some Malformed) is passes named = rw named refl

  object_none : (wrong : Option Why) → m ≡ None → Wronged (is_name_word name) (IsName name) wrong → Limited FitsRow (raw_object line name m) (unless (worse wrong (Some Malformed)) Script)
  object_none None is named = rw (named.0, is) refl
  object_none (Some OutOfRange) is named = rw (named.0, is) refl
  object_none (Some Malformed) is named = rw named refl

  object_limited : (rule : Result ObjectRule Why) → Limited IsExpiry m rule → Limited FitsRow (raw_object line name m) (object_row line name rule)
  object_limited (Ok rule) is = object_ok rule (why_of (name_in name)) is.0 is.1 (name_wronged name)
  object_limited (Err OutOfRange) is = object_long is.0 (why_of (name_in name)) is.1 is.2 (name_wronged name)
  object_limited (Err Malformed) is = object_none (why_of (name_in name)) is (name_wronged name)

-- a word that is no annotation is malformed, never out of range
abbrev Exact : Option EdgeRule → Result EdgeRule Why → Type 0
Exact m (Ok rule) = m ≡ Some rule
Exact m (Err Malformed) = m ≡ None
Exact m (Err OutOfRange) = ⊥

exact_if : (b : Bool) (rule : EdgeRule) (m : Option EdgeRule) (r : Result EdgeRule Why) → Exact m r → Exact (cond b (Some rule) m) (cond b (Ok rule) r)
exact_if true rule m r is = refl
exact_if false rule m r is = is

edge_exact : (text : List ℕ) → Exact (raw_edge_rule text) (edge_rule text)
edge_exact text =
    exact_if (bytes_eq text (codes "deep")) Deep _ _ (exact_if (bytes_eq text (codes "shallow")) Shallow _ _ (exact_if (bytes_eq text (codes "refcount")) Refcount None (Err Malformed) refl))

module _ (line : ℕ) (name source target : List ℕ) (m : Option EdgeRule) where
  abbrev named : Bool
  named = is_name_word name && (is_name_word source && is_name_word target)

  edge_ok : (rule : EdgeRule) (wrong : Option Why) → m ≡ Some rule → Wronged named (IsName name × (IsName source × IsName target)) wrong
      → Limited FitsRow (raw_edge line name source target m) (unless wrong (edge_of line name source target rule))
  edge_ok rule None is fits = (rw (fits.0, is) refl, record { name = fits.1.0; source = fits.1.1.0; target = fits.1.1.1 })
  edge_ok rule (Some OutOfRange) is fits = (edge_of line name source target rule, rw (fits.0, is) refl, λ row. fits.1 (row.name, (row.source, row.target)))
  edge_ok rule (Some Malformed) is fits = rw fits refl

  edge_none : (b : Bool) → m ≡ None → cond b (option_map (edge_of line name source target) m) None ≡ None
  edge_none true is = ap (option_map (edge_of line name source target)) is
  edge_none false is = refl

  edge_limited : (rule : Result EdgeRule Why) → Exact m rule → Limited FitsRow (raw_edge line name source target m) (edge_row line name source target rule)
  edge_limited (Ok rule) is =
      edge_ok rule (names_why name source target) is
      (wronged_both (is_name_word name) (is_name_word source && is_name_word target) (IsName name) (IsName source × IsName target) (why_of (name_in name)) (worse (why_of (name_in source)) (why_of (name_in target)))
      (name_wronged name) (wronged_both (is_name_word source) (is_name_word target) (IsName source) (IsName target) (why_of (name_in source)) (why_of (name_in target)) (name_wronged source) (name_wronged target)))
  edge_limited (Err OutOfRange) is = absurd is
  edge_limited (Err Malformed) is = edge_none named is

row_limited : (line : ℕ) (texts : List (List ℕ)) → Limited FitsRow (raw_row line texts) (row_of line texts)
unfolding row_of
row_limited line [] = refl
row_limited line (k ∷ []) = limited_if FitsRow (bytes_eq k (codes "script")) (Some Script) None (Ok Script) (Err Malformed) (refl, tt) refl
row_limited line (k ∷ a ∷ []) = refl
row_limited line (k ∷ a ∷ b ∷ []) =
    limited_if FitsRow (bytes_eq k (codes "object")) (raw_object line a (raw_plain b)) None (object_row line a (plain_rule b)) (Err Malformed) (object_limited line a (raw_plain b) (plain_rule b) (plain_limited b)) refl
row_limited line (k ∷ a ∷ b ∷ c ∷ []) =
    limited_if FitsRow (bytes_eq k (codes "object") && bytes_eq b (codes "short_ttl")) (raw_object line a (raw_ttl c)) None (object_row line a (ttl_of (number_in 1 7776000 c))) (Err Malformed)
    (object_limited line a (raw_ttl c) (ttl_of (number_in 1 7776000 c)) (ttl_limited (raw_number c) (number_in 1 7776000 c) (number_limited 1 7776000 c))) refl
row_limited line (k ∷ a ∷ b ∷ c ∷ d ∷ []) =
    limited_if FitsRow (bytes_eq k (codes "edge")) (raw_edge line a b c (raw_edge_rule d)) None (edge_row line a b c (edge_rule d)) (Err Malformed) (edge_limited line a b c (raw_edge_rule d) (edge_rule d) (edge_exact d)) refl
row_limited line (k ∷ a ∷ b ∷ c ∷ d ∷ e ∷ more) = refl

-- places

abbrev pub as_rows : Result Schema Why → Result Place Why
as_rows (Ok schema) = Ok (Rows schema)
as_rows (Err why) = Err why

abbrev pub as_window : Result ℕ Why → Result Place Why
as_window (Ok window) = Ok (Rows (empty_schema window))
as_window (Err why) = Err why

abbrev pub step_row : Schema → Result Row Why → Result Place Why
step_row before (Ok Script) = Ok (Over before)
step_row before (Ok (Object object)) = as_rows (with_object before object)
step_row before (Ok (Edge edge)) = as_rows (with_edge before edge)
step_row before (Err why) = Err why

-- the place behind a line of these words
abbrev pub step : ℕ → Place → List (List ℕ) → Result Place Why
step number First texts = cond (is_header texts) (Ok Second) (Err Malformed)
step number Second texts = as_window (window_of texts)
step number (Rows before) texts = step_row before (row_of number texts)
step number (Over before) texts = Err Malformed

all_last : {A : Type 0} (P : A → Type 0) (xs : List A) (x : A) → AllByRecursion P (xs ++ x ∷ []) → P x
all_last P [] x all = all.0
all_last P (y ∷ xs) x all = all_last P xs x all.1

module _ (before : Schema) (fits : IsSpellable before) (m : Option Row) where
  object_step : (object : ObjectType) (room : Bool) → ltb (length before.objects) 64 ≡ room → m ≡ Some (Object object) → FitsObject object
      → Limited IsWithin (option_map (after before) m) (as_rows (cond room (Ok (record { window = before.window; objects = before.objects ++ object ∷ []; edges = before.edges })) (Err OutOfRange)))
  object_step object true room is one = (
    ap (option_map (after before)) is,
    record {
      window = fits.window;
      objects = omega (arith, length-append before.objects (object ∷ []), ltb-true (length before.objects) 64 room);
      edges = fits.edges;
      each_object = all_push FitsObject before.objects object fits.each_object one;
      each_edge = fits.each_edge;
    },
  )
  object_step object false room is one = (
    after before (Object object),
    ap (option_map (after before)) is,
    λ all. let few : length (before.objects ++ object ∷ []) ≤ 64 = all.objects in
        let longer : length (before.objects ++ object ∷ []) ≡ length before.objects + 1 = length-append before.objects (object ∷ []) in
        let well : ltb (length before.objects) 64 ≡ true = lt-ltb (length before.objects) 64 (omega arith) in cc,
  )

  edge_step : (edge : EdgeType) (room : Bool) → ltb (length before.edges) 256 ≡ room → m ≡ Some (Edge edge) → FitsEdge edge
      → Limited IsWithin (option_map (after before) m) (as_rows (cond room (Ok (record { window = before.window; objects = before.objects; edges = before.edges ++ edge ∷ [] })) (Err OutOfRange)))
  edge_step edge true room is one = (
    ap (option_map (after before)) is,
    record {
      window = fits.window;
      objects = fits.objects;
      edges = omega (arith, length-append before.edges (edge ∷ []), ltb-true (length before.edges) 256 room);
      each_object = fits.each_object;
      each_edge = all_push FitsEdge before.edges edge fits.each_edge one;
    },
  )
  edge_step edge false room is one = (
    after before (Edge edge),
    ap (option_map (after before)) is,
    λ all. let few : length (before.edges ++ edge ∷ []) ≤ 256 = all.edges in
        let longer : length (before.edges ++ edge ∷ []) ≡ length before.edges + 1 = length-append before.edges (edge ∷ []) in
        let well : ltb (length before.edges) 256 ≡ true = lt-ltb (length before.edges) 256 (omega arith) in cc,
  )

  passes : (row : Row) → (FitsRow row → ⊥) → IsWithin (after before row) → ⊥
  passes Script ill all = ill tt
  passes (Object object) ill all = ill (all_last FitsObject before.objects object all.each_object)
  passes (Edge edge) ill all = ill (all_last FitsEdge before.edges edge all.each_edge)

  rows_limited : (r : Result Row Why) → Limited FitsRow m r → Limited IsWithin (option_map (after before) m) (step_row before r)
  rows_limited (Ok Script) is = (ap (option_map (after before)) is.0, fits)
  rows_limited (Ok (Object object)) is = object_step object (ltb (length before.objects) 64) refl is.0 is.1
  rows_limited (Ok (Edge edge)) is = edge_step edge (ltb (length before.edges) 256) refl is.0 is.1
  rows_limited (Err OutOfRange) is = (after before is.0, ap (option_map (after before)) is.1, passes is.0 is.2)
  rows_limited (Err Malformed) is = ap (option_map (after before)) is

window_step : (m : Option ℕ) (r : Result ℕ Why) → Limited (IsBetween 0 31536000) m r → Limited IsWithin (option_map (λ window. Rows (empty_schema window)) m) (as_window r)
window_step m (Ok window) is = (ap (option_map (λ (w : ℕ). Rows (empty_schema w))) is.0, empty_fits window is.1.1)
window_step m (Err OutOfRange) is = (Rows (empty_schema is.0), ap (option_map (λ (w : ℕ). Rows (empty_schema w))) is.1, λ all. is.2 (omega arith, all.window))
window_step m (Err Malformed) is = ap (option_map (λ (w : ℕ). Rows (empty_schema w))) is

window_limited : (texts : List (List ℕ)) → Limited (IsBetween 0 31536000) (raw_window texts) (window_of texts)
window_limited [] = refl
window_limited (k ∷ []) = refl
window_limited (k ∷ a ∷ []) = limited_if (IsBetween 0 31536000) (bytes_eq k (codes "window")) (raw_number a) None (number_in 0 31536000 a) (Err Malformed) (number_limited 0 31536000 a) refl
window_limited (k ∷ a ∷ b ∷ more) = refl

pub step_limited : (number : ℕ) (place : Place) (texts : List (List ℕ)) → IsWithin place → Limited IsWithin (raw number place texts) (step number place texts)
step_limited number First texts fits = limited_if IsWithin (is_header texts) (Some Second) None (Ok Second) (Err Malformed) (refl, tt) refl
step_limited number Second texts fits = window_step (raw_window texts) (window_of texts) (window_limited texts)
step_limited number (Rows before) texts fits = rows_limited before fits (raw_row number texts) (row_of number texts) (row_limited number texts)
step_limited number (Over before) texts fits = refl
