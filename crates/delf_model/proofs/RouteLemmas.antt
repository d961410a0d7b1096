use Rattle.std.proofs.Common.{◌≡◌, ◌≤◌, ◌<◌, ◌+◌, ◌-◌, ◌∙◌, ℕ, zero, suc, Bool, true, false, List, [], ◌∷◌, Option, None, Some, length, get_or, set, map, sym, ap, subst, refl, arith, inl, inr}
use Rattle.std.specs.Prelude.{if◌then◌else◌, ◌⊎◌, slice_get, IsSome, is_some}
use Rattle.std.proofs.lemmas.Bool.{false≢true, cases_lt, cases_eq, cases_Bool}
use Rattle.std.proofs.lemmas.List.{get_or_past, get_or-set_same, get_or-set_other, length-set, length-map}
use Rattle.std.proofs.lemmas.List.Sums.{sum_by-set, sum_by-cons}
use Rattle.std.proofs.lemmas.Option.{slice_get_past, slice_get_within}
use Rattle.delf_model.specs.declared.schema.ObjectRule.{ObjectRule}
use Rattle.delf_model.specs.declared.schema.EdgeRule.{EdgeRule}
use Rattle.delf_model.specs.declared.schema.EdgeRule.TheVariants.{Deep, Shallow, Refcount}
use Rattle.delf_model.specs.declared.schema.EdgeShape.{EdgeShape}
use Rattle.delf_model.specs.RuleSet.{RuleSet, is_deep_shape, is_refcount_shape}
use Rattle.delf_model.specs.Checked.{IsRoute, IsDistance, NoRow, LacksEnd, is_start, is_start_type, source_of, target_of, shape_to, shape_from}
use Rattle.delf_model.specs.Distances.{AreDistances, AreDistancesBelow, BeginsRoute, Extends, start_distance, unknown, unknown_count}
use Rattle.delf_model.specs.RuleSet.{is_deep_rule, is_refcount_rule}

-- a type past the last one has no route
pub IsDistance_past : (rules : RuleSet) (distances : List (Option ℕ)) (kind : ℕ) → AreDistances rules distances → length distances ≤ kind → IsDistance rules kind None
IsDistance_past rules distances kind exact past =
    subst (λ d. IsDistance rules kind d) (get_or_past distances kind None past) (exact.each kind)

-- what is known of the lengths as a round has gone over the edge types below row
pub record IsWithinRound (rules : RuleSet) (n : ℕ) (row : ℕ) (distances : List (Option ℕ)) : Type 0 where
  pub len : length distances ≡ length rules.objects
  pub found : (kind m : ℕ) → get_or distances kind None ≡ Some m → (m ≤ n) × IsDistance rules kind (Some m)
  pub all : (kind : ℕ) (route : List ℕ) → IsRoute rules kind route → length route < n → IsSome (get_or distances kind None)
  pub begun : (kind edge : ℕ) (rest : List ℕ) → edge < row → IsRoute rules kind (edge ∷ rest) → length (edge ∷ rest) ≡ n → IsSome (get_or distances kind None)

pub IsWithinRound-start : (rules : RuleSet) (n : ℕ) (distances : List (Option ℕ)) → AreDistancesBelow rules n distances → IsWithinRound rules n 0 distances
IsWithinRound-start rules n distances below = record {
  len = below.len;
  found = λ kind m e. let f : (m < n) × IsDistance rules kind (Some m) = below.found kind m e in (omega arith, f.1);
  all = below.all;
  begun = λ kind edge rest h. absurd (omega arith);
}

the_value : (o : Option ℕ) → IsSome o → (m : ℕ) × (o ≡ Some m)
the_value None h = absurd (false≢true h)
the_value (Some m) h = (m, refl)

known_unless : (o : Option ℕ) → (o ≡ None → ⊥) → IsSome o
known_unless None h = absurd (h refl)
known_unless (Some m) h = refl

is_some_along : (o p : Option ℕ) → p ≡ o → IsSome o → IsSome p
is_some_along o p e h = subst (λ q. IsSome q) (sym e) h

-- an edge type of a route has a number
pub edge_within : (rules : RuleSet) (kind edge : ℕ) (rest : List ℕ) → IsRoute rules kind (edge ∷ rest) → edge < length rules.edges
edge_within rules kind edge rest route =
    elim (cases_lt edge (length rules.edges)) [
      | inl h ↦ h
      | inr h ↦
          let past : slice_get rules.edges edge ≡ None = slice_get_past rules.edges edge h in
          elim route.2 [
            | inl p ↦ absurd (false≢true (subst (λ o. is_refcount_shape o ≡ true) past p.0))
            | inr p ↦ absurd (false≢true (subst (λ o. is_deep_shape o ≡ true) past p.0))
          ]
    ]

pub IsWithinRound-end : (rules : RuleSet) (n row : ℕ) (distances : List (Option ℕ)) → 1 ≤ n → length rules.edges ≤ row → IsWithinRound rules n row distances → AreDistancesBelow rules (n + 1) distances
IsWithinRound-end rules n row distances above all round = record {
  len = round.len;
  found = λ kind m e. let f : (m ≤ n) × IsDistance rules kind (Some m) = round.found kind m e in (omega arith, f.1);
  all = all_of;
} where
  all_of : (kind : ℕ) (route : List ℕ) → IsRoute rules kind route → length route < n + 1 → IsSome (get_or distances kind None)
  all_of kind [] r h = round.all kind [] r (omega arith)
  all_of kind (edge ∷ rest) r h =
      elim (cases_lt (length (edge ∷ rest)) n) [
        | inl less ↦ round.all kind (edge ∷ rest) r less
        | inr more ↦
            let within : edge < length rules.edges = edge_within rules kind edge rest r in
            round.begun kind edge rest (omega arith) r (omega arith)
      ]

begins_refcount : (distances : List (Option ℕ)) (n : ℕ) (rule : EdgeRule) (source : ℕ) → is_refcount_rule rule ≡ true → n ≡ 1 → BeginsRoute distances n rule source
begins_refcount distances n Deep source h e = absurd (false≢true h)
begins_refcount distances n Shallow source h e = absurd (false≢true h)
begins_refcount distances n Refcount source h e = e

begins_deep : (distances : List (Option ℕ)) (n : ℕ) (rule : EdgeRule) (source : ℕ) → is_deep_rule rule ≡ true → get_or distances source None ≡ Some (n - 1) → BeginsRoute distances n rule source
begins_deep distances n Deep source h e = e
begins_deep distances n Shallow source h e = absurd (false≢true h)
begins_deep distances n Refcount source h e = absurd (false≢true h)

module _ (rules : RuleSet) (n row : ℕ) (above : 1 ≤ n) (distances : List (Option ℕ)) (round : IsWithinRound rules n row distances) (shape : EdgeShape) (is : slice_get rules.edges row ≡ Some shape) where
  target_is : target_of rules row ≡ shape.to
  target_is = ap shape_to is

  source_is : source_of rules row ≡ shape.from
  source_is = ap shape_from is

  -- a type to which the edge type begins a route of n is known, or the edge type begins a route of n from a known source
  known_or_begins : (kind : ℕ) (rest : List ℕ) → IsRoute rules kind (row ∷ rest) → length (row ∷ rest) ≡ n → IsSome (get_or distances kind None) ⊎ BeginsRoute distances n shape.rule shape.from
  known_or_begins kind rest route len =
      elim route.2 [
        | inl p ↦
            let ref : is_refcount_rule shape.rule ≡ true = subst (λ o. is_refcount_shape o ≡ true) is p.0 in
            let empty : length rest ≡ 0 = ap length p.1 in
            inr (begins_refcount distances n shape.rule shape.from ref (omega arith))
        | inr p ↦
            let deep : is_deep_rule shape.rule ≡ true = subst (λ o. is_deep_shape o ≡ true) is p.0 in
            let tail : IsRoute rules shape.from rest = subst (λ s. IsRoute rules s rest) source_is p.1 in
            let known : (m : ℕ) × (get_or distances shape.from None ≡ Some m) = the_value (get_or distances shape.from None) (round.all shape.from rest tail (omega arith)) in
            let m : ℕ = known.0 in
            let exact : IsDistance rules shape.from (Some m) = (round.found shape.from m known.1).1 in
            let least : m ≤ length rest = exact.1 rest tail in
            elim (cases_lt (suc m) n) [
              | inl shorter ↦
                  let other : List ℕ = exact.0.0 in
                  let other_len : length other ≡ m = exact.0.2 in
                  let longer : IsRoute rules kind (row ∷ other) = (route.0, route.1, inr (p.0, subst (λ s. IsRoute rules s other) (sym source_is) exact.0.1)) in
                  inl (round.all kind (row ∷ other) longer (omega arith))
              | inr equal ↦
                  let e : m ≡ n - 1 = omega arith in
                  inr (begins_deep distances n shape.rule shape.from deep (known.1 ∙ ap (λ k. Some k) e))
            ]
      ]

  pub IsWithinRound-kept : (get_or distances shape.to None ≡ None → BeginsRoute distances n shape.rule shape.from → ⊥) → IsWithinRound rules n (row + 1) distances
  IsWithinRound-kept why = record { len = round.len; found = round.found; all = round.all; begun = begun_of } where
    begun_here : (kind : ℕ) (rest : List ℕ) → IsRoute rules kind (row ∷ rest) → length (row ∷ rest) ≡ n → IsSome (get_or distances kind None)
    begun_here kind rest route len =
        elim (known_or_begins kind rest route len) [
          | inl known ↦ known
          | inr begins ↦ subst (λ k. IsSome (get_or distances k None)) (sym target_is ∙ route.1) (known_unless (get_or distances shape.to None) (λ e. why e begins))
        ]

    begun_of : (kind edge : ℕ) (rest : List ℕ) → edge < row + 1 → IsRoute rules kind (edge ∷ rest) → length (edge ∷ rest) ≡ n → IsSome (get_or distances kind None)
    begun_of kind edge rest h route len =
        elim (cases_lt edge row) [
          | inl before ↦ round.begun kind edge rest before route len
          | inr after ↦
              let e : edge ≡ row = omega arith in
              begun_here kind rest (subst (λ k. IsRoute rules kind (k ∷ rest)) e route) len
        ]

  module _ (new : get_or distances shape.to None ≡ None) (within : shape.to < length distances) (begins : BeginsRoute distances n shape.rule shape.from) where
    -- no shorter route leads to a type that is not known
    none_below : (route : List ℕ) → IsRoute rules shape.to route → n ≤ length route
    none_below route r =
        elim (cases_lt (length route) n) [
          | inl less ↦ absurd (false≢true (subst (λ o. is_some o ≡ true) new (round.all shape.to route r less)))
          | inr more ↦ more
        ]

    no_start : is_start rules shape.to ≡ false
    no_start =
        elim (cases_Bool (is_start rules shape.to)) [
          | inl start ↦ let h : n ≤ 0 = none_below [] start in absurd (omega arith)
          | inr h ↦ h
        ]

    route_by : (rule : EdgeRule) → is_refcount_shape (slice_get rules.edges row) ≡ is_refcount_rule rule → is_deep_shape (slice_get rules.edges row) ≡ is_deep_rule rule → BeginsRoute distances n rule shape.from → (route : List ℕ) × IsRoute rules shape.to route × (length route ≡ n)
    route_by Deep ref deep e =
        let exact : IsDistance rules shape.from (Some (n - 1)) = (round.found shape.from (n - 1) e).1 in
        let rest : List ℕ = exact.0.0 in
        let rest_len : length rest ≡ n - 1 = exact.0.2 in
        (row ∷ rest, (no_start, target_is, inr (deep, subst (λ s. IsRoute rules s rest) (sym source_is) exact.0.1)), omega arith)
    route_by Shallow ref deep e = absurd e
    route_by Refcount ref deep e = (row ∷ [], (no_start, target_is, inl (ref, refl)), omega arith)

    reached : IsDistance rules shape.to (Some n)
    reached = (route_by shape.rule (ap is_refcount_shape is) (ap is_deep_shape is) begins, none_below)

    after : List (Option ℕ)
    after = set distances shape.to (Some n)

    after_there : get_or (set distances shape.to (Some n)) shape.to None ≡ Some n
    after_there = get_or-set_same distances shape.to (Some n) None within

    after_other : (kind : ℕ) → (kind ≡ shape.to → ⊥) → get_or (set distances shape.to (Some n)) kind None ≡ get_or distances kind None
    after_other kind other = get_or-set_other distances shape.to kind (Some n) None other

    known_after : (kind : ℕ) → IsSome (get_or distances kind None) → IsSome (get_or (set distances shape.to (Some n)) kind None)
    known_after kind known =
        elim (cases_eq kind shape.to) [
          | inl e ↦ subst (λ k. IsSome (get_or (set distances shape.to (Some n)) k None)) (sym e) (is_some_along (Some n) _ after_there refl)
          | inr other ↦ is_some_along (get_or distances kind None) _ (after_other kind other) known
        ]

    pub IsWithinRound-set : IsWithinRound rules n (row + 1) (set distances shape.to (Some n))
    IsWithinRound-set = record {
      len = length-set distances shape.to (Some n) ∙ round.len;
      found = found_of;
      all = λ kind route r h. known_after kind (round.all kind route r h);
      begun = begun_of;
    } where
      found_of : (kind m : ℕ) → get_or (set distances shape.to (Some n)) kind None ≡ Some m → (m ≤ n) × IsDistance rules kind (Some m)
      found_of kind m e =
          elim (cases_eq kind shape.to) [
            | inl there ↦
                let at : get_or (set distances shape.to (Some n)) kind None ≡ Some n = ap (λ k. get_or (set distances shape.to (Some n)) k None) there ∙ after_there in
                let same : n ≡ m = cc in
                (omega arith, subst (λ x. IsDistance rules kind (Some x)) same (subst (λ k. IsDistance rules k (Some n)) (sym there) reached))
            | inr other ↦ round.found kind m (sym (after_other kind other) ∙ e)
          ]

      begun_of : (kind edge : ℕ) (rest : List ℕ) → edge < row + 1 → IsRoute rules kind (edge ∷ rest) → length (edge ∷ rest) ≡ n → IsSome (get_or (set distances shape.to (Some n)) kind None)
      begun_of kind edge rest h route len =
          elim (cases_lt edge row) [
            | inl before ↦ known_after kind (round.begun kind edge rest before route len)
            | inr later ↦
                let e : edge ≡ row = omega arith in
                let target : target_of rules row ≡ kind = (subst (λ k. IsRoute rules kind (k ∷ rest)) e route).1 in
                subst (λ k. IsSome (get_or (set distances shape.to (Some n)) k None)) (sym target_is ∙ target) (is_some_along (Some n) _ after_there refl)
          ]

    pub unknown_count-set : unknown_count (set distances shape.to (Some n)) + 1 ≡ unknown_count distances
    unknown_count-set =
        let e : unknown_count (set distances shape.to (Some n)) + unknown (get_or distances shape.to None) ≡ unknown_count distances + 0 = sum_by-set unknown distances shape.to (Some n) None within in
        let one : unknown (get_or distances shape.to None) ≡ 1 = ap unknown new in
        omega arith

-- where a round finds nothing more, each route leads to a known type
all_known : (rules : RuleSet) (n : ℕ) (distances : List (Option ℕ)) → AreDistancesBelow rules n distances → AreDistancesBelow rules (n + 1) distances → 1 ≤ n → (route : List ℕ) (kind : ℕ) → IsRoute rules kind route → IsSome (get_or distances kind None)
all_known rules n distances below more above [] kind r = more.all kind [] r (omega arith)
all_known rules n distances below more above (edge ∷ rest) kind r =
    elim r.2 [
      | inl p ↦ let empty : length rest ≡ 0 = ap length p.1 in more.all kind (edge ∷ rest) r (omega arith)
      | inr p ↦
          let source : ℕ = source_of rules edge in
          let known : (m : ℕ) × (get_or distances source None ≡ Some m) = the_value (get_or distances source None) (all_known rules n distances below more above rest source p.1) in
          let m : ℕ = known.0 in
          let few : m < n = (below.found source m known.1).0 in
          let exact : IsDistance rules source (Some m) = (below.found source m known.1).1 in
          let other : List ℕ = exact.0.0 in
          let other_len : length other ≡ m = exact.0.2 in
          more.all kind (edge ∷ other) (r.0, r.1, inr (p.0, exact.0.1)) (omega arith)
    ]

pub AreDistances-from_rounds : (rules : RuleSet) (n : ℕ) (distances : List (Option ℕ)) → AreDistancesBelow rules n distances → AreDistancesBelow rules (n + 1) distances → 1 ≤ n → AreDistances rules distances
AreDistances-from_rounds rules n distances below more above = record { len = below.len; each = λ kind. each_of kind (get_or distances kind None) refl } where
  each_of : (kind : ℕ) (o : Option ℕ) → get_or distances kind None ≡ o → IsDistance rules kind o
  each_of kind None e = λ has. false≢true (subst (λ o. is_some o ≡ true) e (all_known rules n distances below more above has.0 kind has.1))
  each_of kind (Some m) e = (below.found kind m e).1

start_at : (objects : List ObjectRule) (kind : ℕ) → get_or (map start_distance objects) kind None ≡ (if is_start_type (slice_get objects kind) then Some 0 else None)
start_at [] kind = refl
start_at (rule ∷ objects) zero = refl
start_at (rule ∷ objects) (suc kind) = start_at objects kind

pub AreDistancesBelow-start : (rules : RuleSet) (distances : List (Option ℕ)) → distances ≡ map start_distance rules.objects → AreDistancesBelow rules 1 distances
AreDistancesBelow-start rules distances e = record {
  len = ap length e ∙ simp length-map;
  found = found_of;
  all = all_of;
} where
  at : (kind : ℕ) → get_or distances kind None ≡ (if is_start rules kind then Some 0 else None)
  at kind = ap (λ xs. get_or xs kind None) e ∙ start_at rules.objects kind

  found_of : (kind m : ℕ) → get_or distances kind None ≡ Some m → (m < 1) × IsDistance rules kind (Some m)
  found_of kind m found =
      elim (cases_Bool (is_start rules kind)) [
        | inl start ↦
            let there : (if is_start rules kind then Some 0 else None) ≡ Some 0 = ap (λ b. if b then Some 0 else None) start in
            let some : Some 0 ≡ Some m = sym there ∙ (sym (at kind) ∙ found) in
            let same : 0 ≡ m = cc in
            (omega arith, subst (λ x. IsDistance rules kind (Some x)) same (([], start, refl), λ route r. omega arith))
        | inr none ↦
            let there : (if is_start rules kind then Some 0 else None) ≡ None = ap (λ b. if b then Some 0 else None) none in
            let some : None ≡ Some m = sym there ∙ (sym (at kind) ∙ found) in
            cc
      ]

  all_of : (kind : ℕ) (route : List ℕ) → IsRoute rules kind route → length route < 1 → IsSome (get_or distances kind None)
  all_of kind [] r h = is_some_along (Some 0) _ (at kind ∙ ap (λ b. if b then Some 0 else None) r) refl
  all_of kind (edge ∷ rest) r h = absurd (omega arith)

unknown_le_one : (d : Option ℕ) → unknown d ≤ 1
unknown_le_one None = omega arith
unknown_le_one (Some n) = omega arith

pub unknown_count-le-length : (distances : List (Option ℕ)) → unknown_count distances ≤ length distances
unknown_count-le-length [] = omega arith
unknown_count-le-length (d ∷ distances) =
    let e : unknown_count (d ∷ distances) ≡ unknown d + unknown_count distances = sum_by-cons unknown d distances in
    let rest : unknown_count distances ≤ length distances = unknown_count-le-length distances in
    let one : unknown d ≤ 1 = unknown_le_one d in
    omega arith

-- the ends of an edge type are types, where no edge type lacks an end
pub ends_within : (rules : RuleSet) (row : ℕ) (shape : EdgeShape) → NoRow (length rules.edges) (LacksEnd rules) → slice_get rules.edges row ≡ Some shape → (shape.from < length rules.objects) × (shape.to < length rules.objects)
ends_within rules row shape ends is =
    let inside : row < length rules.edges = slice_get_within rules.edges row shape is in
    let source : source_of rules row ≡ shape.from = ap shape_from is in
    let target : target_of rules row ≡ shape.to = ap shape_to is in (
      elim (cases_lt shape.from (length rules.objects)) [ inl h ↦ h | inr h ↦ absurd (ends row inside (inl (subst (λ s. length rules.objects ≤ s) (sym source) h))) ],
      elim (cases_lt shape.to (length rules.objects)) [ inl h ↦ h | inr h ↦ absurd (ends row inside (inr (subst (λ s. length rules.objects ≤ s) (sym target) h))) ],
    )

module _ (rules : RuleSet) (n row : ℕ) (above : 1 ≤ n) (distances after : List (Option ℕ)) (shape : EdgeShape) (ends : NoRow (length rules.edges) (LacksEnd rules)) (is : slice_get rules.edges row ≡ Some shape) (round : IsWithinRound rules n row distances) where
  within_known : shape.to < length distances
  within_known = let h : shape.to < length rules.objects = (ends_within rules row shape ends is).1 in omega (arith, round.len)

  pub IsWithinRound-extended : (r : Bool) → (r ≡ true → Extends distances after n shape) → (r ≡ false → after ≡ distances) → (r ≡ false → get_or distances shape.to None ≡ None → BeginsRoute distances n shape.rule shape.from → ⊥) → IsWithinRound rules n (row + 1) after
  IsWithinRound-extended r set_it kept begins_not =
      elim (cases_Bool r) [
        | inl h ↦
            let e : Extends distances after n shape = set_it h in
            subst (λ d. IsWithinRound rules n (row + 1) d) (sym e.set) (IsWithinRound-set rules n row above distances round shape is e.unknown_before within_known e.begins)
        | inr h ↦
            subst (λ d. IsWithinRound rules n (row + 1) d) (sym (kept h)) (IsWithinRound-kept rules n row above distances round shape is (begins_not h))
      ]

  pub unknown_count-extended : Extends distances after n shape → unknown_count after < unknown_count distances
  unknown_count-extended e =
      let fewer : unknown_count (set distances shape.to (Some n)) + 1 ≡ unknown_count distances = unknown_count-set rules n row above distances round shape is e.unknown_before within_known e.begins in
      let same : unknown_count after ≡ unknown_count (set distances shape.to (Some n)) = ap unknown_count e.set in
      omega arith
