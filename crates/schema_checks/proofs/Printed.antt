-- The table of first edges that routes are read from.
use Rattle.std.proofs.Common.{◌≡◌, ◌<◌, ◌≤◌, ◌-◌, ◌∙◌, ℕ, zero, suc, true, false, List, [], ◌∷◌, Option, None, Some, ◌+◌, ◌++◌, length, length-append, below_more, get_or, sym, ap, subst, refl, arith, inl, inr}
use Rattle.std.specs.Prelude.{slice_get}
use Rattle.std.proofs.lemmas.Bool.{false≢true, cases_lt, cases_Bool}
use Rattle.std.proofs.Math.ListN.{get_or-append}
use Rattle.std.proofs.Math.Seq.{get_or-append_seam}
use Rattle.std.proofs.lemmas.List.{get_or_past}
use Rattle.std.proofs.lemmas.Option.{slice_get_past}
use Rattle.delf_model.specs.declared.schema.EdgeRule.{EdgeRule}
use Rattle.delf_model.specs.declared.schema.EdgeRule.TheVariants.{Deep, Shallow, Refcount}
use Rattle.delf_model.specs.declared.schema.EdgeShape.{EdgeShape}
use Rattle.delf_model.specs.RuleSet.{RuleSet, is_deep, is_refcount, is_deep_rule, is_refcount_rule, is_deep_shape, is_refcount_shape}
use Rattle.delf_model.specs.Checked.{IsRoute, HasRoute, IsDistance, KeepsRules, is_start, is_start_type, source_of, target_of}
use Rattle.delf_model.proofs.RouteLemmas.{edge_within}
use Rattle.schema_checks.specs.Routes.{IsAtMost, ComesFirst, IsPrintedRoute, BeginsShortest, IsFirstOf, IsFirstEdge}

rule_not_both : (rule : EdgeRule) → is_refcount_rule rule ≡ true → is_deep_rule rule ≡ true → ⊥
rule_not_both Deep ref deep = false≢true ref
rule_not_both Shallow ref deep = false≢true ref
rule_not_both Refcount ref deep = false≢true deep

shape_not_both : (shape : Option EdgeShape) → is_refcount_shape shape ≡ true → is_deep_shape shape ≡ true → ⊥
shape_not_both None ref deep = false≢true ref
shape_not_both (Some shape) ref deep = rule_not_both shape.rule ref deep

empty_of : (route : List ℕ) → length route ≡ 0 → route ≡ []
empty_of [] e = refl
empty_of (edge ∷ rest) e = absurd (omega arith)

module _ (rules : RuleSet) where
  pub distance_unique : (kind a b : ℕ) → IsDistance rules kind (Some a) → IsDistance rules kind (Some b) → a ≡ b
  distance_unique kind a b da db =
      let low : a ≤ length db.0.0 = da.1 db.0.0 db.0.1 in
      let high : b ≤ length da.0.0 = db.1 da.0.0 da.0.1 in
      let la : length da.0.0 ≡ a = da.0.2 in
      let lb : length db.0.0 ≡ b = db.0.2 in
      omega arith

  -- a type past the last one has no route
  pub none_past : (kind : ℕ) → KeepsRules rules → length rules.objects ≤ kind → IsDistance rules kind None
  none_past kind kept past (route, r) = go route r where
    go : (route : List ℕ) → IsRoute rules kind route → ⊥
    go [] start = false≢true (subst (λ o. is_start_type o ≡ true) (slice_get_past rules.objects kind past) start)
    go (edge ∷ rest) r =
        let within : target_of rules edge < length rules.objects = kept.targets edge (edge_within rules kind edge rest r) in
        let target : target_of rules edge ≡ kind = r.1 in
        omega arith

  begins_of_route : (kind edge n : ℕ) (rest : List ℕ) → IsRoute rules kind (edge ∷ rest) → IsDistance rules kind (Some n) → length (edge ∷ rest) ≡ n → BeginsShortest rules kind n edge
  begins_of_route kind edge n rest route dist len = (
    route.1,
    elim route.2 [
      | inl p ↦ let empty : length rest ≡ 0 = ap length p.1 in inl (p.0, omega arith)
      | inr p ↦ inr (p.0, ((rest, p.1, omega arith), λ other r. let h : n ≤ length (edge ∷ other) = dist.1 (edge ∷ other) (route.0, route.1, inr (p.0, r)) in omega arith))
    ],
  )

  -- a shortest route that is not empty begins with an edge type
  pub some_begins : (kind n : ℕ) → IsDistance rules kind (Some n) → 0 < n → (edge : ℕ) × BeginsShortest rules kind n edge
  some_begins kind n dist above = go dist.0.0 dist.0.1 dist.0.2 where
    go : (route : List ℕ) → IsRoute rules kind route → length route ≡ n → (edge : ℕ) × BeginsShortest rules kind n edge
    go [] r len = absurd (omega arith)
    go (edge ∷ rest) r len = (edge, begins_of_route kind edge n rest r dist len)

  pub begins_within : (kind n edge : ℕ) → BeginsShortest rules kind n edge → edge < length rules.edges
  begins_within kind n edge begins =
      elim (cases_lt edge (length rules.edges)) [
        | inl h ↦ h
        | inr h ↦
            let past : slice_get rules.edges edge ≡ None = slice_get_past rules.edges edge h in
            elim begins.1 [
              | inl p ↦ absurd (false≢true (subst (λ o. is_refcount_shape o ≡ true) past p.0))
              | inr p ↦ absurd (false≢true (subst (λ o. is_deep_shape o ≡ true) past p.0))
            ]
      ]

  no_start : (kind n : ℕ) → IsDistance rules kind (Some n) → 0 < n → is_start rules kind ≡ false
  no_start kind n dist above =
      elim (cases_Bool (is_start rules kind)) [
        | inl start ↦ let h : n ≤ 0 = dist.1 [] start in absurd (omega arith)
        | inr h ↦ h
      ]

  route_of_begins : (kind edge n : ℕ) → BeginsShortest rules kind n edge → IsDistance rules kind (Some n) → 0 < n → (rest : List ℕ) × IsRoute rules kind (edge ∷ rest) × (length (edge ∷ rest) ≡ n)
  route_of_begins kind edge n begins dist above =
      elim begins.1 [
        | inl p ↦ ([], (no_start kind n dist above, begins.0, inl (p.0, refl)), omega arith)
        | inr p ↦
            let len : length p.1.0.0 ≡ n - 1 = p.1.0.2 in
            (p.1.0.0, (no_start kind n dist above, begins.0, inr (p.0, p.1.0.1)), omega arith)
      ]

  comes_first_le : (route other : List ℕ) → ComesFirst route other → length route ≤ length other
  comes_first_le route other (inl less) = omega arith
  comes_first_le route other (inr same) = omega arith

  printed_length : (kind n : ℕ) (route : List ℕ) → IsPrintedRoute rules kind route → IsDistance rules kind (Some n) → length route ≡ n
  printed_length kind n route printed dist =
      let low : n ≤ length route = dist.1 route printed.0 in
      let high : length route ≤ length dist.0.0 = comes_first_le route dist.0.0 (printed.1 dist.0.0 dist.0.1) in
      let len : length dist.0.0 ≡ n = dist.0.2 in
      omega arith

  pub printed_none : (kind : ℕ) (route : List ℕ) → IsFirstEdge rules kind None → IsPrintedRoute rules kind route → route ≡ []
  printed_none kind route (inl none) printed = absurd (none (route, printed.0))
  printed_none kind route (inr zero_long) printed = empty_of route (printed_length kind 0 route printed zero_long)

  -- a printed route begins with the first edge type
  pub printed_begins : (kind edge n : ℕ) → IsFirstOf rules kind edge n → (route : List ℕ) → IsPrintedRoute rules kind route → (rest : List ℕ) × (route ≡ edge ∷ rest)
  printed_begins kind edge n first [] printed =
      let len : 0 ≡ n = printed_length kind n [] printed first.distance in
      let above : 0 < n = first.above in
      absurd (omega arith)
  printed_begins kind edge n first (e ∷ rest) printed =
      let len : length (e ∷ rest) ≡ n = printed_length kind n (e ∷ rest) printed first.distance in
      let begins : BeginsShortest rules kind n e = begins_of_route kind e n rest printed.0 first.distance len in
      let other : (tail : List ℕ) × IsRoute rules kind (edge ∷ tail) × (length (edge ∷ tail) ≡ n) = route_of_begins kind edge n first.begins first.distance first.above in
      let other_len : length (edge ∷ other.0) ≡ n = other.2 in
      elim (printed.1 (edge ∷ other.0) other.1) [
        | inl less ↦ absurd (omega arith)
        | inr same ↦ elim same.1 [
          | inl less ↦ absurd (first.least e less begins)
          | inr equal ↦ (rest, ap (λ x. x ∷ rest) equal.0)
        ]
      ]

  pub printed_rest : (kind edge : ℕ) (rest : List ℕ) → is_deep rules edge ≡ true → IsPrintedRoute rules kind (edge ∷ rest) → IsPrintedRoute rules (source_of rules edge) rest
  printed_rest kind edge rest deep printed = (
    elim printed.0.2 [
      | inl p ↦ absurd (shape_not_both (slice_get rules.edges edge) p.0 deep)
      | inr p ↦ p.1
    ],
    λ other r. elim (printed.1 (edge ∷ other) (printed.0.0, printed.0.1, inr (deep, r))) [
      | inl less ↦ inl (omega arith)
      | inr same ↦ elim same.1 [
        | inl less ↦ absurd (omega arith)
        | inr equal ↦ let len : length (edge ∷ rest) ≡ length (edge ∷ other) = same.0 in inr (omega arith, equal.1)
      ]
    ],
  )

  pub printed_end : (kind edge : ℕ) (rest : List ℕ) → (is_deep rules edge ≡ true → ⊥) → IsPrintedRoute rules kind (edge ∷ rest) → rest ≡ []
  printed_end kind edge rest not_deep printed =
      elim printed.0.2 [
        | inl p ↦ p.1
        | inr p ↦ absurd (not_deep p.0)
      ]

  -- the first edge type, followed by the printed route of its source where it is deep
  printed_alone : (kind edge n : ℕ) → IsFirstOf rules kind edge n → is_refcount rules edge ≡ true → n ≡ 1 → IsPrintedRoute rules kind (edge ∷ [])
  printed_alone kind edge n first ref one =
      ((no_start kind n first.distance first.above, first.begins.0, inl (ref, refl)), λ other r. go other r) where
        go : (other : List ℕ) → IsRoute rules kind other → ComesFirst (edge ∷ []) other
        go [] start = let h : n ≤ 0 = first.distance.1 [] start in absurd (omega arith)
        go (e ∷ rest) r =
            elim (cases_lt 1 (length (e ∷ rest))) [
              | inl longer ↦ inl longer
              | inr short ↦
                  let begins : BeginsShortest rules kind n e = begins_of_route kind e n rest r first.distance (omega arith) in
                  inr (
                    omega arith,
                    elim (cases_lt edge e) [
                      | inl less ↦ inl less
                      | inr more ↦ elim (cases_lt e edge) [
                        | inl below ↦ absurd (first.least e below begins)
                        | inr above ↦ inr (omega arith, tt)
                      ]
                    ],
                  )
            ]

  printed_further : (kind edge n : ℕ) (rest : List ℕ) → IsFirstOf rules kind edge n → is_deep rules edge ≡ true → IsPrintedRoute rules (source_of rules edge) rest → length rest ≡ n - 1 → IsPrintedRoute rules kind (edge ∷ rest)
  printed_further kind edge n rest first deep printed len =
      ((no_start kind n first.distance first.above, first.begins.0, inr (deep, printed.0)), λ other r. go other r) where
        tail_first : (e : ℕ) (tail : List ℕ) → e ≡ edge → IsRoute rules kind (e ∷ tail) → length rest ≡ length tail → IsAtMost rest tail
        tail_first e tail same r equal =
            elim r.2 [
              | inl p ↦ absurd (shape_not_both (slice_get rules.edges e) p.0 (subst (λ x. is_deep rules x ≡ true) (sym same) deep))
              | inr p ↦ elim (printed.1 tail (subst (λ x. IsRoute rules (source_of rules x) tail) same p.1)) [
                | inl less ↦ absurd (omega arith)
                | inr least ↦ least.1
              ]
            ]

        go : (other : List ℕ) → IsRoute rules kind other → ComesFirst (edge ∷ rest) other
        go [] start = let h : n ≤ 0 = first.distance.1 [] start in let above : 0 < n = first.above in absurd (omega arith)
        go (e ∷ tail) r =
            let above : 0 < n = first.above in
            let low : n ≤ length (e ∷ tail) = first.distance.1 (e ∷ tail) r in
            elim (cases_lt (length (edge ∷ rest)) (length (e ∷ tail))) [
              | inl longer ↦ inl longer
              | inr short ↦
                  let begins : BeginsShortest rules kind n e = begins_of_route kind e n tail r first.distance (omega arith) in
                  inr (
                    omega arith,
                    elim (cases_lt edge e) [
                      | inl less ↦ inl less
                      | inr more ↦ elim (cases_lt e edge) [
                        | inl below ↦ absurd (first.least e below begins)
                        | inr not_below ↦
                            let same : e ≡ edge = omega arith in
                            inr (sym same, tail_first e tail same r (omega arith))
                      ]
                    ],
                  )
            ]

  printed_step : (n : ℕ) → ((kind : ℕ) → IsDistance rules kind (Some n) → (route : List ℕ) × IsPrintedRoute rules kind route) → (kind : ℕ) (first : Option ℕ) → IsFirstEdge rules kind first → IsDistance rules kind (Some (suc n)) → (route : List ℕ) × IsPrintedRoute rules kind route
  printed_step n shorter kind None (inl none) dist = absurd (none (dist.0.0, dist.0.1))
  printed_step n shorter kind None (inr zero_long) dist = let e : 0 ≡ suc n = distance_unique kind 0 (suc n) zero_long dist in absurd (omega arith)
  printed_step n shorter kind (Some edge) (m, first) dist =
      let e : m ≡ suc n = distance_unique kind m (suc n) first.distance dist in
      elim first.begins.1 [
        | inl p ↦ (edge ∷ [], printed_alone kind edge m first p.0 p.1)
        | inr p ↦
            let same : m - 1 ≡ n = omega arith in
            let source : IsDistance rules (source_of rules edge) (Some n) = subst (λ k. IsDistance rules (source_of rules edge) (Some k)) same p.1 in
            let rest : (route : List ℕ) × IsPrintedRoute rules (source_of rules edge) route = shorter (source_of rules edge) source in
            let len : length rest.0 ≡ n = printed_length (source_of rules edge) n rest.0 rest.1 source in
            (edge ∷ rest.0, printed_further kind edge m rest.0 first p.0 rest.1 (omega arith))
      ]

  module _ (firsts : ℕ → Option ℕ) (each : (kind : ℕ) → IsFirstEdge rules kind (firsts kind)) where
    printed_of : (n kind : ℕ) → IsDistance rules kind (Some n) → (route : List ℕ) × IsPrintedRoute rules kind route
    printed_of zero kind dist =
        let start : IsRoute rules kind [] = subst (λ r. IsRoute rules kind r) (empty_of dist.0.0 dist.0.2) dist.0.1 in
        ([], (start, λ other r. elim (cases_lt 0 (length other)) [ inl longer ↦ inl longer | inr short ↦ inr (omega arith, tt) ]))
    printed_of (suc n) kind dist = printed_step n (λ k d. printed_of n k d) kind (firsts kind) (each kind) dist

    distance_of : (kind : ℕ) (first : Option ℕ) → IsFirstEdge rules kind first → HasRoute rules kind → (n : ℕ) × IsDistance rules kind (Some n)
    distance_of kind None (inl none) has = absurd (none has)
    distance_of kind None (inr zero_long) has = (0, zero_long)
    distance_of kind (Some edge) (n, first) has = (n, first.distance)

    -- a type that has a route has a printed one
    pub printed_exists : (kind : ℕ) → HasRoute rules kind → (route : List ℕ) × IsPrintedRoute rules kind route
    printed_exists kind has =
        let found : (n : ℕ) × IsDistance rules kind (Some n) = distance_of kind (firsts kind) (each kind) has in
        printed_of found.0 kind found.1

pub slice_get_later : {X : Type 0} (x : X) (xs : List X) (i : ℕ) → (i ≡ 0 → ⊥) → slice_get (x ∷ xs) i ≡ slice_get xs (i - 1)
slice_get_later x xs zero later = absurd (later refl)
slice_get_later x xs (suc i) later = let e : suc i - 1 ≡ i = omega arith in ap (slice_get xs) (sym e)

-- past the last row of the table there is no route
pub first_edges_all : (rules : RuleSet) (firsts : List (Option ℕ)) → KeepsRules rules → length firsts ≡ length rules.objects → ((kind : ℕ) → kind < length rules.objects → IsFirstEdge rules kind (get_or firsts kind None)) → (kind : ℕ) → IsFirstEdge rules kind (get_or firsts kind None)
first_edges_all rules firsts kept len below kind =
    elim (cases_lt kind (length rules.objects)) [
      | inl within ↦ below kind within
      | inr past ↦ subst (λ d. IsFirstEdge rules kind d) (sym (get_or_past firsts kind None (omega arith))) (inl (none_past rules kind kept past))
    ]

-- a table with one row more
pub first_edges_push : (rules : RuleSet) (n : ℕ) (firsts after : List (Option ℕ)) (first : Option ℕ) → length firsts ≡ n → ((k : ℕ) → k < n → IsFirstEdge rules k (get_or firsts k None)) → IsFirstEdge rules n first → after ≡ firsts ++ first ∷ [] → (length after ≡ n + 1) × ((k : ℕ) → k < n + 1 → IsFirstEdge rules k (get_or after k None))
first_edges_push rules n firsts after first len below here is = (
  ap length is ∙ (length-append firsts (first ∷ []) ∙ ap (λ m. m + 1) len),
  below_more (λ k. IsFirstEdge rules k (get_or after k None)) n
      (λ k h. subst (λ d. IsFirstEdge rules k d) (sym (ap (λ xs. get_or xs k None) is ∙ get_or-append firsts (first ∷ []) None k (omega arith))) (below k h))
      (subst (λ d. IsFirstEdge rules n d) (sym (ap (λ xs. get_or xs n None) is ∙ at_end firsts first n len)) here),
) where
  at_end : (xs : List (Option ℕ)) (x : Option ℕ) (m : ℕ) → length xs ≡ m → get_or (xs ++ x ∷ []) m None ≡ x
  at_end xs x m e = ap (λ i. get_or (xs ++ x ∷ []) i None) (sym e) ∙ get_or-append_seam xs x [] None
