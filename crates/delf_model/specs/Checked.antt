-- Checked annotations: the four rules of a schema, and routes.
use Rattle.std.specs.Prelude.{◌≡◌, ◌<◌, ◌≤◌, ℕ, Bool, true, false, List, [], ◌∷◌, Option, Some, None, length, map, slice_get, IsTrue, ◌⊎◌, option_map, unwrap_or}
use Rattle.std.specs.List.{position_or_len, All}
use Rattle.std.specs.Str.{bytes_eq}
use Rattle.delf_model.specs.declared.schema.ObjectRule.{ObjectRule}
use Rattle.delf_model.specs.declared.schema.ObjectRule.TheVariants.{Directly, DirectlyOnly, ByAny, ShortTtl, NotDeleted}
use Rattle.delf_model.specs.declared.schema.EdgeRule.{EdgeRule}
use Rattle.delf_model.specs.declared.schema.EdgeRule.TheVariants.{Shallow}
use Rattle.delf_model.specs.declared.schema.EdgeShape.{EdgeShape}
use Rattle.delf_model.specs.declared.schema.ObjectType.{ObjectType}
use Rattle.delf_model.specs.declared.schema.EdgeType.{EdgeType}
use Rattle.delf_model.specs.declared.schema.Schema.{Schema}
use Rattle.delf_model.specs.RuleSet.{RuleSet, is_deep, is_refcount}

-- objects of the type go by a call or by their age, with no edge: the type starts each route
abbrev pub is_start_rule : ObjectRule → Bool
is_start_rule Directly = true
is_start_rule DirectlyOnly = true
is_start_rule (ShortTtl seconds) = true
is_start_rule rule = false

-- objects of the type may be condemned through an edge
abbrev pub takes_rule : ObjectRule → Bool
takes_rule Directly = true
takes_rule ByAny = true
takes_rule (ShortTtl seconds) = true
takes_rule rule = false

-- the removal of the edge may condemn its target
abbrev pub rule_may_condemn : EdgeRule → Bool
rule_may_condemn Shallow = false
rule_may_condemn rule = true

abbrev pub is_start_type : Option ObjectRule → Bool
is_start_type (Some rule) = is_start_rule rule
is_start_type None = false

abbrev pub takes_type : Option ObjectRule → Bool
takes_type (Some rule) = takes_rule rule
takes_type None = false

abbrev pub shape_may_condemn : Option EdgeShape → Bool
shape_may_condemn (Some shape) = rule_may_condemn shape.rule
shape_may_condemn None = false

abbrev pub shape_from : Option EdgeShape → ℕ
shape_from shape = unwrap_or (option_map (λ shape. shape.from) shape) 0

abbrev pub shape_to : Option EdgeShape → ℕ
shape_to shape = unwrap_or (option_map (λ shape. shape.to) shape) 0

-- whether the object type with this number starts each route
abbrev pub is_start : RuleSet → ℕ → Bool
is_start rules kind = is_start_type (slice_get rules.objects kind)

-- whether objects of the type with this number may be condemned through an edge
abbrev pub takes : RuleSet → ℕ → Bool
takes rules kind = takes_type (slice_get rules.objects kind)

-- whether the edge type with this number is deep or refcount
abbrev pub may_condemn : RuleSet → ℕ → Bool
may_condemn rules edge = shape_may_condemn (slice_get rules.edges edge)

-- the number of the type that the edge type starts at, and of the type that it points at
abbrev pub source_of : RuleSet → ℕ → ℕ
source_of rules edge = shape_from (slice_get rules.edges edge)

abbrev pub target_of : RuleSet → ℕ → ℕ
target_of rules edge = shape_to (slice_get rules.edges edge)

-- a route of a type, as the numbers of its edge types: none where the type starts each route; else the first
-- points at the type, and is refcount and the only one, or deep and followed by a route of its source
abbrev pub IsRoute : RuleSet → ℕ → List ℕ → Type 0
IsRoute rules kind [] = IsTrue (is_start rules kind)
IsRoute rules kind (edge ∷ rest) =
    (is_start rules kind ≡ false)
    × (target_of rules edge ≡ kind)
    × ((IsTrue (is_refcount rules edge) × (rest ≡ []))
    ⊎ (IsTrue (is_deep rules edge) × IsRoute rules (source_of rules edge) rest))

abbrev pub HasRoute : RuleSet → ℕ → Type 0
HasRoute rules kind = (route : List ℕ) × IsRoute rules kind route

-- how many edge types a shortest route has, None where there is no route
abbrev pub IsDistance : RuleSet → ℕ → Option ℕ → Type 0
IsDistance rules kind None = HasRoute rules kind → ⊥
IsDistance rules kind (Some n) =
    ((route : List ℕ) × IsRoute rules kind route × (length route ≡ n))
    × ((route : List ℕ) → IsRoute rules kind route → n ≤ length route)

-- P holds of this row of n, and of no row before it
abbrev pub IsFirstRow : ℕ → (ℕ → Type 0) → ℕ → Type 0
IsFirstRow n P row = (row < n) × P row × ((k : ℕ) → k < row → P k → ⊥)

-- P holds of none of n rows
abbrev pub NoRow : ℕ → (ℕ → Type 0) → Type 0
NoRow n P = (k : ℕ) → k < n → P k → ⊥

-- the first of n rows at which P holds, or None where it holds at none
abbrev pub IsFirstRowOrNone : Option ℕ → ℕ → (ℕ → Type 0) → Type 0
IsFirstRowOrNone None n P = NoRow n P
IsFirstRowOrNone (Some row) n P = IsFirstRow n P row

-- the name of this row stands in an earlier row too
abbrev pub IsRepeated : List (List ℕ) → ℕ → Type 0
IsRepeated names row = (k : ℕ) × (k < row) × (slice_get names k ≡ slice_get names row)

-- the edge type's source, or its target, has no number of a type
abbrev pub LacksSource : RuleSet → ℕ → Type 0
LacksSource rules edge = length rules.objects ≤ source_of rules edge

abbrev pub LacksTarget : RuleSet → ℕ → Type 0
LacksTarget rules edge = length rules.objects ≤ target_of rules edge

-- the edge type may condemn objects of a type that may not be condemned through an edge
abbrev pub CondemnsUntaken : RuleSet → ℕ → Type 0
CondemnsUntaken rules edge = IsTrue (may_condemn rules edge) × (takes rules (target_of rules edge) ≡ false)

-- an end of the edge type has no number of a type
abbrev pub LacksEnd : RuleSet → ℕ → Type 0
LacksEnd rules edge = LacksSource rules edge ⊎ LacksTarget rules edge

-- which end of the edge type lacks a type: its target where its source has one
abbrev pub LacksNamedEnd : RuleSet → ℕ → Bool → Type 0
LacksNamedEnd rules edge false = LacksSource rules edge
LacksNamedEnd rules edge true = LacksSource rules edge → ⊥

-- the first edge type with an end that is no type, and which end that is
abbrev pub IsFirstUndeclared : RuleSet → ℕ → Bool → Type 0
IsFirstUndeclared rules row target =
    IsFirstRow (length rules.edges) (LacksEnd rules) row × LacksNamedEnd rules row target

-- the type is by_any and has no route
abbrev pub LacksRoute : RuleSet → ℕ → Type 0
LacksRoute rules kind = (slice_get rules.objects kind ≡ Some ByAny) × (HasRoute rules kind → ⊥)

-- what annotations by number keep: the ends of each edge type are types, no deep or refcount edge type points at a
-- directly_only or not_deleted type, and every by_any type has a route
pub record KeepsRules (rules : RuleSet) : Type 0 where
  pub sources : (edge : ℕ) → edge < length rules.edges → source_of rules edge < length rules.objects
  pub targets : (edge : ℕ) → edge < length rules.edges → target_of rules edge < length rules.objects
  pub taken : (edge : ℕ) → IsTrue (may_condemn rules edge) → IsTrue (takes rules (target_of rules edge))
  pub routes : (kind : ℕ) → slice_get rules.objects kind ≡ Some ByAny → HasRoute rules kind

-- the number of the object type with this name, and past the last one where none has it
abbrev pub number_of : List ObjectType → List ℕ → ℕ
number_of objects name = position_or_len (λ object. bytes_eq object.name name) objects

-- an edge type with its ends by number
abbrev pub shape_of : List ObjectType → EdgeType → EdgeShape
shape_of objects edge =
    record { from = number_of objects edge.from; to = number_of objects edge.to; rule = edge.rule }

-- the annotations of a schema by number
abbrev pub numbered : Schema → RuleSet
numbered schema = record {
  window = schema.window;
  objects = map (λ object. object.rule) schema.objects;
  edges = map (shape_of schema.objects) schema.edges;
}

abbrev pub object_names : Schema → List (List ℕ)
object_names schema = map (λ object. object.name) schema.objects

abbrev pub edge_names : Schema → List (List ℕ)
edge_names schema = map (λ edge. edge.name) schema.edges

-- no object type name and no edge type name stands twice, and the annotations by number keep the other rules
pub record IsChecked (schema : Schema) : Type 0 where
  pub object_names_once : NoRow (length schema.objects) (IsRepeated (object_names schema))
  pub edge_names_once : NoRow (length schema.edges) (IsRepeated (edge_names schema))
  pub numbers : KeepsRules (numbered schema)

-- an expiry of 1 to 7,776,000 seconds
abbrev pub IsExpiry : ObjectRule → Type 0
IsExpiry Directly = Unit {0}
IsExpiry DirectlyOnly = Unit {0}
IsExpiry ByAny = Unit {0}
IsExpiry (ShortTtl seconds) = (1 ≤ seconds) × (seconds ≤ 7776000)
IsExpiry NotDeleted = Unit {0}

-- a schema text can spell the schema: at most 64 object types and 256 edge types, a window of at most 31,536,000
-- seconds, and expiries within their limits
pub record IsSpellable (schema : Schema) : Type 0 where
  pub window : schema.window ≤ 31536000
  pub objects : length schema.objects ≤ 64
  pub edges : length schema.edges ≤ 256
  pub expiries : All (λ object. IsExpiry object.rule) schema.objects
