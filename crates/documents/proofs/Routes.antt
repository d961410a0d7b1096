-- A printed route is no longer than there are types, and its edge types have numbers of the schema; the lines of routes.
use Rattle.std.proofs.Common.{◌≡◌, ℕ, zero, suc, ◌+◌, ◌≤◌, ◌<◌, Bool, true, false, cond, eqb, IsTrue, Some, None, Result, Ok, Err, IfOk, List, [], ◌∷◌, ◌++◌, length, take, map, refl, sym, ap, subst, ◌∙◌, inl, inr, arith, add-one, append-nil}
use Rattle.std.specs.Prelude.{slice_get}
use Rattle.std.specs.List.{AllByRecursion, filter, range_with_len}
use Rattle.std.proofs.lemmas.Bool.{false≢true, cases_lt, eqb-true, eq-eqb}
use Rattle.std.proofs.lemmas.List.{length-map}
use Rattle.std.proofs.lemmas.List.Elements.{filter-append}
use Rattle.delf_model.specs.declared.schema.Schema.{Schema}
use Rattle.delf_model.specs.declared.schema.ObjectType.{ObjectType}
use Rattle.delf_model.specs.declared.schema.ObjectRule.{ObjectRule}
use Rattle.delf_model.specs.declared.schema.ObjectRule.TheVariants.{Directly, DirectlyOnly, ByAny, ShortTtl, NotDeleted}
use Rattle.delf_model.specs.RuleSet.{RuleSet}
use Rattle.delf_model.specs.Checked.{IsRoute, HasRoute, KeepsRules, IsChecked, numbered, source_of, shape_of}
use Rattle.delf_model.proofs.RouteLemmas.{edge_within}
use Rattle.schema_checks.specs.Routes.{IsPrintedRoute, ComesFirst}
use Rattle.schema_checks.proofs.Printed.{none_past}
use Rattle.documents.specs.Checks.{IsRouteLine, AreRouteLines, AreRouteNames, AreRulesOf, is_by_any, is_by_any_type, is_by_any_rule, by_any_types}
use Rattle.documents.specs.Names.{edge_name}
use Rattle.documents.proofs.Places.{slice_past, take_past}

-- numbers that are all below a bound, and of which no two are the same, are no more than the bound

abbrev Apart : List ℕ → Type 0
Apart [] = Unit {0}
Apart (x ∷ xs) = AllByRecursion (λ (y : ℕ). y ≡ x → ⊥) xs × Apart xs

abbrev without : ℕ → List ℕ → List ℕ
without n [] = []
without n (x ∷ xs) = cond (eqb x n) (without n xs) (x ∷ without n xs)

all_map : (P Q : ℕ → Type 0) → ((x : ℕ) → P x → Q x) → (xs : List ℕ) → AllByRecursion P xs → AllByRecursion Q xs
all_map P Q f [] all = tt
all_map P Q f (x ∷ xs) all = (f x all.0, all_map P Q f xs all.1)

absent_length : (n : ℕ) (xs : List ℕ) → AllByRecursion (λ (y : ℕ). y ≡ n → ⊥) xs → length (without n xs) ≡ length xs
absent_length n [] all = refl
absent_length n (x ∷ xs) all = here (eqb x n) refl (absent_length n xs all.1)
  where
    here : (b : Bool) → eqb x n ≡ b → length (without n xs) ≡ length xs → length (cond b (without n xs) (x ∷ without n xs)) ≡ suc (length xs)
    here true is rest = absurd (all.0 (eqb-true x n is))
    here false is rest = ap suc rest

apart_length : (n : ℕ) (xs : List ℕ) → Apart xs → length xs ≤ length (without n xs) + 1
apart_length n [] apart = omega arith
apart_length n (x ∷ xs) apart = here (eqb x n) refl (apart_length n xs apart.1)
  where
    here : (b : Bool) → eqb x n ≡ b → length xs ≤ length (without n xs) + 1 → suc (length xs) ≤ length (cond b (without n xs) (x ∷ without n xs)) + 1
    here true is rest =
        let same : length (without n xs) ≡ length xs =
        absent_length n xs (subst (λ (m : ℕ). AllByRecursion (λ (y : ℕ). y ≡ m → ⊥) xs) (eqb-true x n is) apart.0) in
        omega arith
    here false is rest = omega arith

all_without : (P : ℕ → Type 0) (n : ℕ) (xs : List ℕ) → AllByRecursion P xs → AllByRecursion P (without n xs)
all_without P n [] all = tt
all_without P n (x ∷ xs) all = here (eqb x n) (all_without P n xs all.1)
  where
    here : (b : Bool) → AllByRecursion P (without n xs) → AllByRecursion P (cond b (without n xs) (x ∷ without n xs))
    here true rest = rest
    here false rest = (all.0, rest)

apart_without : (n : ℕ) (xs : List ℕ) → Apart xs → Apart (without n xs)
apart_without n [] apart = tt
apart_without n (x ∷ xs) apart = here (eqb x n) (apart_without n xs apart.1)
  where
    here : (b : Bool) → Apart (without n xs) → Apart (cond b (without n xs) (x ∷ without n xs))
    here true rest = rest
    here false rest = (all_without (λ (y : ℕ). y ≡ x → ⊥) n xs apart.0, rest)

below_without : (n : ℕ) (xs : List ℕ) → AllByRecursion (λ (y : ℕ). y < suc n) xs → AllByRecursion (λ (y : ℕ). y < n) (without n xs)
below_without n [] all = tt
below_without n (x ∷ xs) all = here (eqb x n) refl (below_without n xs all.1)
  where
    less : eqb x n ≡ false → x < n
    less is = elim (cases_lt x n) [
      | inl h ↦ h
      | inr h ↦ let below : x < suc n = all.0 in absurd (false≢true (sym is ∙ eq-eqb x n (omega arith)))
    ]

    here : (b : Bool) → eqb x n ≡ b → AllByRecursion (λ (y : ℕ). y < n) (without n xs) →
        AllByRecursion (λ (y : ℕ). y < n) (cond b (without n xs) (x ∷ without n xs))
    here true is rest = rest
    here false is rest = (less is, rest)

few_apart : (n : ℕ) (xs : List ℕ) → Apart xs → AllByRecursion (λ (y : ℕ). y < n) xs → length xs ≤ n
few_apart zero [] apart all = omega arith
few_apart zero (x ∷ xs) apart all = let none : x < 0 = all.0 in absurd (omega arith)
few_apart (suc n) xs apart all =
    let fewer : length (without n xs) ≤ n = few_apart n (without n xs) (apart_without n xs apart) (below_without n xs all) in
    let one : length xs ≤ length (without n xs) + 1 = apart_length n xs apart in
    omega arith

-- routes

abbrev IsShortest : RuleSet → ℕ → List ℕ → Type 0
IsShortest rules kind route = IsRoute rules kind route × ((other : List ℕ) → IsRoute rules kind other → length route ≤ length other)

abbrev HasShort : RuleSet → ℕ → ℕ → Type 0
HasShort rules n kind = (route : List ℕ) × (IsRoute rules kind route × (length route ≤ n))

-- types that are apart and have routes no longer than so much
record Chain (rules : RuleSet) (n : ℕ) : Type 0 where
  kinds : List ℕ
  apart : Apart kinds
  short : AllByRecursion (HasShort rules n) kinds
  many : n ≤ length kinds

module _ (rules : RuleSet) where
  -- the types of a shortest route are apart
  chain : (kind : ℕ) (route : List ℕ) → IsShortest rules kind route → Chain rules (length route)
  chain kind [] shortest = record { kinds = []; apart = tt; short = tt; many = omega arith }
  chain kind (edge ∷ rest) shortest =
      elim shortest.0.2 [
        | inl p ↦
            let none : length rest ≡ 0 = ap length p.1 in
            record { kinds = kind ∷ []; apart = (tt, tt); short = ((edge ∷ rest, (shortest.0, omega arith)), tt); many = omega arith }
        | inr p ↦
            let more : (other : List ℕ) → IsRoute rules (source_of rules edge) other → length rest ≤ length other = λ other r.
            let longer : length (edge ∷ rest) ≤ length (edge ∷ other) = shortest.1 (edge ∷ other) (shortest.0.0, shortest.0.1, inr (p.0, r)) in omega arith in
            let later : Chain rules (length rest) = chain (source_of rules edge) rest (p.1, more) in
            let other : (x : ℕ) → HasShort rules (length rest) x → x ≡ kind → ⊥ = λ x short same.
            let less : length short.0 ≤ length rest = short.1.1 in
            let least : length (edge ∷ rest) ≤ length short.0 = shortest.1 short.0 (subst (λ (k : ℕ). IsRoute rules k short.0) same short.1.0) in omega arith in
            let wider : (x : ℕ) → HasShort rules (length rest) x → HasShort rules (length (edge ∷ rest)) x = λ x short.
            let less : length short.0 ≤ length rest = short.1.1 in (short.0, (short.1.0, omega arith)) in
            let count : length rest ≤ length later.kinds = later.many in
            record {
              kinds = kind ∷ later.kinds;
              apart = (all_map (HasShort rules (length rest)) (λ (x : ℕ). x ≡ kind → ⊥) other later.kinds later.short, later.apart);
              short = ((edge ∷ rest, (shortest.0, omega arith)), all_map (HasShort rules (length rest)) (HasShort rules (length (edge ∷ rest))) wider later.kinds later.short);
              many = omega arith;
            }
      ]

  comes_first_le : (route other : List ℕ) → ComesFirst route other → length route ≤ length other
  comes_first_le route other (inl less) = omega arith
  comes_first_le route other (inr same) = omega arith

  -- so it has no more edge types than there are types
  pub printed_short : (kind : ℕ) (route : List ℕ) → KeepsRules rules → IsPrintedRoute rules kind route → length route ≤ length rules.objects
  printed_short kind route kept printed =
      let types : Chain rules (length route) = chain kind route (printed.0, λ other r. comes_first_le route other (printed.1 other r)) in
      let within : (x : ℕ) → HasShort rules (length route) x → x < length rules.objects = λ x short.
      elim (cases_lt x (length rules.objects)) [
        | inl h ↦ h
        | inr h ↦ absurd (none_past rules x kept h (short.0, short.1.0))
      ] in
      let few : length types.kinds ≤ length rules.objects =
      few_apart (length rules.objects) types.kinds types.apart (all_map (HasShort rules (length route)) (λ (y : ℕ). y < length rules.objects) within types.kinds types.short) in
      let many : length route ≤ length types.kinds = types.many in
      omega arith

  -- its edge types are some of the rules
  pub route_within : (kind i edge : ℕ) (route : List ℕ) → IsRoute rules kind route → slice_get route i ≡ Some edge → edge < length rules.edges
  route_within kind i edge [] r is = absurd (cc is)
  route_within kind zero edge (e ∷ rest) r is = let same : e ≡ edge = cc in subst (λ (x : ℕ). x < length rules.edges) same (edge_within rules kind e rest r)
  route_within kind (suc i) edge (e ∷ rest) r is =
      elim r.2 [
        | inl p ↦ let none : slice_get [] i ≡ Some edge = subst (λ (xs : List ℕ). slice_get xs i ≡ Some edge) p.1 is in absurd (cc none)
        | inr p ↦ route_within (source_of rules e) i edge rest p.1 is
      ]

-- a type that is `by_any` has a route in a checked schema

by_any_rule : (rule : ObjectRule) → is_by_any_rule rule ≡ true → Some rule ≡ Some ByAny
by_any_rule Directly is = absurd (false≢true is)
by_any_rule DirectlyOnly is = absurd (false≢true is)
by_any_rule ByAny is = refl
by_any_rule (ShortTtl seconds) is = absurd (false≢true is)
by_any_rule NotDeleted is = absurd (false≢true is)

by_any_at : (objects : List ObjectType) (kind : ℕ) → is_by_any_type (slice_get objects kind) ≡ true →
    slice_get (map (λ (o : ObjectType). o.rule) objects) kind ≡ Some ByAny
by_any_at [] kind is = absurd (false≢true is)
by_any_at (x ∷ xs) zero is = by_any_rule x.rule is
by_any_at (x ∷ xs) (suc kind) is = by_any_at xs kind is

there_at : (objects : List ObjectType) (kind : ℕ) → is_by_any_type (slice_get objects kind) ≡ true → kind < length objects
there_at [] kind is = absurd (false≢true is)
there_at (x ∷ xs) zero is = omega arith
there_at (x ∷ xs) (suc kind) is = let later : kind < length xs = there_at xs kind is in omega arith

pub type_is_there : (schema : Schema) (kind : ℕ) → IsTrue (is_by_any schema kind) → kind < length schema.objects
type_is_there schema kind is = there_at schema.objects kind is

pub routed : (schema : Schema) (kind : ℕ) → IsChecked schema → IsTrue (is_by_any schema kind) → HasRoute (numbered schema) kind
routed schema kind checked is = checked.numbers.routes kind (by_any_at schema.objects kind is)

-- names of a route, so far and all

pub edge_is_there : (schema : Schema) (rules : RuleSet) (kind i edge : ℕ) (route : List ℕ) → AreRulesOf schema rules → IsPrintedRoute rules kind route →
    Some edge ≡ slice_get route i → edge < length schema.edges
edge_is_there schema rules kind i edge route are printed is =
    let within : edge < length rules.edges = route_within rules kind i edge route printed.0 (sym is) in
    let same : length rules.edges ≡ length schema.edges =
    ap (λ (r : RuleSet). length r.edges) are.rules_are ∙ length-map schema.edges (shape_of schema.objects) in
    omega arith

next_edge : (route : List ℕ) (i edge : ℕ) → slice_get route i ≡ Some edge → take (suc i) route ≡ take i route ++ edge ∷ []
next_edge [] i edge is = absurd (cc is)
next_edge (x ∷ xs) zero edge is = let same : x ≡ edge = cc in ap (λ (y : ℕ). y ∷ []) same
next_edge (x ∷ xs) (suc i) edge is = ap (λ (ys : List ℕ). x ∷ ys) (next_edge xs i edge is)

map_snoc : {A B : Type 0} (f : A → B) (xs : List A) (x : A) → map f (xs ++ x ∷ []) ≡ map f xs ++ f x ∷ []
map_snoc f [] x = refl
map_snoc f (y ∷ ys) x = ap (λ (zs : List _). f y ∷ zs) (map_snoc f ys x)

pub names_more : (schema : Schema) (route : List ℕ) (i edge : ℕ) (before after : List (List ℕ)) (name : List ℕ) → Some edge ≡ slice_get route i →
    before ≡ map (edge_name schema) (take i route) → name ≡ edge_name schema edge → after ≡ before ++ name ∷ [] →
    after ≡ map (edge_name schema) (take (i + 1) route)
names_more schema route i edge before after name is so_far said grown =
    grown ∙ ap (λ (ns : List (List ℕ)). ns ++ name ∷ []) so_far ∙ ap (λ (n : List ℕ). map (edge_name schema) (take i route) ++ n ∷ []) said
    ∙ sym (map_snoc (edge_name schema) (take i route) edge)
    ∙ ap (map (edge_name schema)) (sym (next_edge route i edge (sym is)) ∙ ap (λ (n : ℕ). take n route) (sym (add-one i)))

pub names_end : (schema : Schema) (rules : RuleSet) (kind i : ℕ) (route : List ℕ) (names : List (List ℕ)) → AreRulesOf schema rules → IsPrintedRoute rules kind route →
    None ≡ slice_get route i → names ≡ map (edge_name schema) (take i route) → AreRouteNames schema kind names
names_end schema rules kind i route names are printed is so_far =
    (route, (subst (λ (r : RuleSet). IsPrintedRoute r kind route) are.rules_are printed, so_far ∙ ap (map (edge_name schema)) (slice_past route i (sym is))))

pub names_all : (schema : Schema) (rules : RuleSet) (kind i : ℕ) (route : List ℕ) (names : List (List ℕ)) → AreRulesOf schema rules → IsPrintedRoute rules kind route →
    length schema.objects ≤ i → names ≡ map (edge_name schema) (take i route) → AreRouteNames schema kind names
names_all schema rules kind i route names are printed past so_far =
    let kept : KeepsRules rules = subst KeepsRules (sym are.rules_are) are.checked.numbers in
    let few : length route ≤ length rules.objects = printed_short rules kind route kept printed in
    let same : length rules.objects ≡ length schema.objects =
    ap (λ (r : RuleSet). length r.objects) are.rules_are ∙ length-map schema.objects (λ (o : ObjectType). o.rule) in
    (route, (subst (λ (r : RuleSet). IsPrintedRoute r kind route) are.rules_are printed, so_far ∙ ap (map (edge_name schema)) (take_past route i (omega arith))))

pub route_of : (schema : Schema) (rules : RuleSet) (kind : ℕ) → AreRulesOf schema rules → IsTrue (is_by_any schema kind) → HasRoute rules kind
route_of schema rules kind are is = subst (λ (r : RuleSet). HasRoute r kind) (sym are.rules_are) (routed schema kind are.checked is)

-- lines, one type after the other

one_line : (schema : Schema) (kind : ℕ) (text : List ℕ) → is_by_any schema kind ≡ true → IsRouteLine schema kind text →
    AreRouteLines schema (cond (is_by_any schema kind) (kind ∷ []) []) text
one_line schema kind text is line =
    subst (λ (b : Bool). AreRouteLines schema (cond b (kind ∷ []) []) text) (sym is) (text, ([], (line, (refl, sym (append-nil text)))))

pub one_line_if : {E : Type 0} (schema : Schema) (kind : ℕ) (made : Result (List ℕ) E) → is_by_any schema kind ≡ true → IfOk made (IsRouteLine schema kind) →
    IfOk made (λ text. AreRouteLines schema (cond (is_by_any schema kind) (kind ∷ []) []) text)
one_line_if schema kind (Ok text) is line = one_line schema kind text is line
one_line_if schema kind (Err e) is line = tt

lines_append : (schema : Schema) (xs ys : List ℕ) (a b : List ℕ) → AreRouteLines schema xs a → AreRouteLines schema ys b → AreRouteLines schema (xs ++ ys) (a ++ b)
lines_append schema [] ys a b first second = subst (λ (t : List ℕ). AreRouteLines schema ys (t ++ b)) (sym first) second
lines_append schema (x ∷ xs) ys a b (line, (rest, (is, (more, text)))) second =
    (line, (rest ++ b, (is, (lines_append schema xs ys rest b more second, ap (λ (t : List ℕ). t ++ b) text ∙ appended line rest b))))
  where
    appended : (a b c : List ℕ) → (a ++ b) ++ c ≡ a ++ (b ++ c)
    appended [] b c = refl
    appended (x ∷ xs) b c = ap (λ (ys : List ℕ). x ∷ ys) (appended xs b c)

range_more : (a n : ℕ) → range_with_len a (n + 1) ≡ range_with_len a n ++ (a + n) ∷ []
range_more a zero = ap (λ (k : ℕ). k ∷ []) (omega arith)
range_more a (suc n) =
    let longer : suc n + 1 ≡ suc (n + 1) = omega arith in
    let last : (a + 1) + n ≡ a + suc n = omega arith in
    ap (range_with_len a) longer ∙ ap (λ (l : List ℕ). a ∷ l) (range_more (a + 1) n ∙ ap (λ (k : ℕ). range_with_len (a + 1) n ++ k ∷ []) last)

pub lines_more : (schema : Schema) (kind : ℕ) (before after line : List ℕ) → AreRouteLines schema (by_any_types schema kind) before →
    AreRouteLines schema (cond (is_by_any schema kind) (kind ∷ []) []) line → after ≡ before ++ line → AreRouteLines schema (by_any_types schema (kind + 1)) after
lines_more schema kind before after line so_far next grown =
    let last : 0 + kind ≡ kind = omega arith in
    let types : by_any_types schema (kind + 1) ≡ by_any_types schema kind ++ cond (is_by_any schema kind) (kind ∷ []) [] =
    ap (filter (is_by_any schema)) (range_more 0 kind ∙ ap (λ (k : ℕ). range_with_len 0 kind ++ k ∷ []) last)
    ∙ filter-append (is_by_any schema) (range_with_len 0 kind) (kind ∷ []) in
    subst (λ (ks : List ℕ). AreRouteLines schema ks after) (sym types)
    (subst (λ (t : List ℕ). AreRouteLines schema (by_any_types schema kind ++ cond (is_by_any schema kind) (kind ∷ []) []) t) (sym grown)
    (lines_append schema (by_any_types schema kind) (cond (is_by_any schema kind) (kind ∷ []) []) before line so_far next))
