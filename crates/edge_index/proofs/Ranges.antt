-- The part of an order that one end has.
use Rattle.std.proofs.Common.{◌≡◌, ℕ, ◌+◌, Bool, true, false, cond, ◌||◌, ◌∷◌, [], List, refl, ap, sym, ◌∙◌, arith, Some, None, Option}
use Rattle.std.proofs.lemmas.Bool.Decides.{nat_tests}
use Rattle.std.proofs.lemmas.Grind.{common_steps}
use Rattle.std.specs.Prelude.{filter, nat_eq, is_some}
use Rattle.std.specs.List.{list_any}
use Rattle.std.specs.Map.Iter.{TakesFirst}
use Rattle.std.specs.declared.ops.Bound.TheVariants.{Included, Excluded}
use Rattle.std.specs.BTreeMap.Range.{range_contains, entries_between}
use Rattle.delf_model.specs.declared.rows.EdgeKey.{EdgeKey}
use Rattle.edge_index.specs.declared.ends.EndKey.{EndKey}
use Rattle.edge_index.specs.Ends.{end_cmp, is_near}

abbrev pub start_of : ℕ → EndKey
start_of near = record { near = near; edge = 0; far = 0 }

in_range : (near : ℕ) (q : EndKey) → range_contains end_cmp (Included (start_of near)) (Excluded (start_of (near + 1))) q ≡ nat_eq q.near near
in_range near q = grind (arith, nat_tests, common_steps)

filter_same : {X : Type 0} (p q : X → Bool) (xs : List X) → ((x : X) → p x ≡ q x) → filter p xs ≡ filter q xs
filter_same p q [] same = refl
filter_same p q (x ∷ xs) same =
    ap (λ (b : Bool). cond b (x ∷ filter p xs) (filter p xs)) (same x) ∙ ap (λ ys. cond (q x) (x ∷ ys) ys) (filter_same p q xs same)

pub between_is_near : (near : ℕ) (order : List (EndKey × EdgeKey)) →
    entries_between end_cmp (Included (start_of near)) (Excluded (start_of (near + 1))) order ≡ filter (is_near near) order
between_is_near near order =
    filter_same (λ e. range_contains end_cmp (Included (start_of near)) (Excluded (start_of (near + 1))) e.0) (is_near near) order (λ e. in_range near e.0)

any_none : {X : Type 0} (p : X → Bool) (xs : List X) → filter p xs ≡ [] → list_any p xs ≡ false
any_none p [] none = refl
any_none p (x ∷ xs) none = go (p x) (any_none p xs) none
  where
    go : (b : Bool) → (filter p xs ≡ [] → list_any p xs ≡ false) → cond b (x ∷ filter p xs) (filter p xs) ≡ [] → (b || list_any p xs) ≡ false
    go true more none = absurd (cc)
    go false more none = more none

any_some : {X : Type 0} (p : X → Bool) (xs : List X) (y : X) (ys : List X) → filter p xs ≡ y ∷ ys → list_any p xs ≡ true
any_some p [] y ys some = absurd (cc)
any_some p (x ∷ xs) y ys some = go (p x) (any_some p xs y ys) some
  where
    go : (b : Bool) → (filter p xs ≡ y ∷ ys → list_any p xs ≡ true) → cond b (x ∷ filter p xs) (filter p xs) ≡ y ∷ ys → (b || list_any p xs) ≡ true
    go true more some = refl
    go false more some = more some

-- whether a filtered list has a first element
pub first_is_any : {A X : Type 0} (shows : A → X) (p : X → Bool) (xs rest : List X) (first : Option A) → TakesFirst shows (filter p xs) first rest → is_some first ≡ list_any p xs
first_is_any shows p xs rest None taken = sym (any_none p xs taken.0)
first_is_any shows p xs rest (Some x) taken = sym (any_some p xs (shows x) rest taken)
