-- What the search for shortest routes keeps while it runs; no public contract speaks of it.
use Rattle.std.specs.Prelude.{if◌then◌else◌, ◌≡◌, ◌<◌, ◌≤◌, ◌-◌, ℕ, List, Option, None, Some, IsSome, length}
use Rattle.std.specs.List.{slice_index_or, slice_set, sum_by}
use Rattle.delf_model.specs.declared.schema.ObjectRule.{ObjectRule}
use Rattle.delf_model.specs.declared.schema.EdgeRule.{EdgeRule}
use Rattle.delf_model.specs.declared.schema.EdgeRule.TheVariants.{Deep, Shallow, Refcount}
use Rattle.delf_model.specs.declared.schema.EdgeShape.{EdgeShape}
use Rattle.delf_model.specs.RuleSet.{RuleSet}
use Rattle.delf_model.specs.Checked.{IsRoute, IsDistance, KeepsRules, is_start_rule}

-- for each object type the length of a shortest route, where it has one
pub record AreDistances (rules : RuleSet) (distances : List (Option ℕ)) : Type 0 where
  pub len : length distances ≡ length rules.objects
  pub each : (kind : ℕ) → IsDistance rules kind (slice_index_or distances kind None)

-- checked annotations of at most 64 object types and 256 edge types, with the lengths of their shortest routes
pub record KeepsDistances (rules : RuleSet) (distances : List (Option ℕ)) : Type 0 where
  pub objects_few : length rules.objects ≤ 64
  pub edges_few : length rules.edges ≤ 256
  pub kept : KeepsRules rules
  pub exact : AreDistances rules distances

-- the lengths of the shortest routes that have fewer than n edge types, and of no others
pub record AreDistancesBelow (rules : RuleSet) (n : ℕ) (distances : List (Option ℕ)) : Type 0 where
  pub len : length distances ≡ length rules.objects
  pub found : (kind m : ℕ) → slice_index_or distances kind None ≡ Some m → (m < n) × IsDistance rules kind (Some m)
  pub all : (kind : ℕ) (route : List ℕ) → IsRoute rules kind route → length route < n → IsSome (slice_index_or distances kind None)

abbrev pub unknown : Option ℕ → ℕ
unknown None = 1
unknown (Some n) = 0

-- of how many types no length is known
abbrev pub unknown_count : List (Option ℕ) → ℕ
unknown_count distances = sum_by unknown distances

-- an edge type of this rule and source is the first of a route of n edge types
abbrev pub BeginsRoute : List (Option ℕ) → ℕ → EdgeRule → ℕ → Type 0
BeginsRoute distances n Deep source = slice_index_or distances source None ≡ Some (n - 1)
BeginsRoute distances n Shallow source = ⊥
BeginsRoute distances n Refcount source = n ≡ 1

-- the length of the empty route, where the type has it
abbrev pub start_distance : ObjectRule → Option ℕ
start_distance rule = (if is_start_rule rule then Some 0 else None)

-- the edge type's target, which had no length, has this one, and the edge type begins such a route
pub record Extends (old new : List (Option ℕ)) (n : ℕ) (edge : EdgeShape) : Type 0 where
  pub unknown_before : slice_index_or old edge.to None ≡ None
  pub begins : BeginsRoute old n edge.rule edge.from
  pub set : new ≡ slice_set old edge.to (Some n)
