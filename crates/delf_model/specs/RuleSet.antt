-- The annotations of a schema, by the numbers of its types.
use Rattle.std.specs.Prelude.{ℕ, Bool, true, false, List, Option, Some, None, slice_get}
use Rattle.delf_model.specs.declared.schema.ObjectRule.{ObjectRule}
use Rattle.delf_model.specs.declared.schema.EdgeShape.{EdgeShape}
use Rattle.delf_model.specs.declared.schema.EdgeRule.{EdgeRule}
use Rattle.delf_model.specs.declared.schema.EdgeRule.TheVariants.{Deep, Refcount}

-- the annotations by number, as the service reads them: the window in seconds, the rule of each object type,
-- the ends and the rule of each edge type
pub record RuleSet : Type 0 where
  pub window : ℕ
  pub objects : List ObjectRule
  pub edges : List EdgeShape

abbrev pub is_deep_rule : EdgeRule → Bool
is_deep_rule Deep = true
is_deep_rule rule = false

abbrev pub is_refcount_rule : EdgeRule → Bool
is_refcount_rule Refcount = true
is_refcount_rule rule = false

abbrev pub is_deep_shape : Option EdgeShape → Bool
is_deep_shape (Some shape) = is_deep_rule shape.rule
is_deep_shape None = false

abbrev pub is_refcount_shape : Option EdgeShape → Bool
is_refcount_shape (Some shape) = is_refcount_rule shape.rule
is_refcount_shape None = false

-- whether the edge type with this number is deep
abbrev pub is_deep : RuleSet → ℕ → Bool
is_deep rules edge = is_deep_shape (slice_get rules.edges edge)

-- whether the edge type with this number is refcount
abbrev pub is_refcount : RuleSet → ℕ → Bool
is_refcount rules edge = is_refcount_shape (slice_get rules.edges edge)
