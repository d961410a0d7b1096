-- What `check` prints of a document.
use Rattle.std.specs.Prelude.{◌≡◌, ℕ, Bool, true, false, Option, Some, None, List, [], ◌∷◌, ◌++◌, length, map, slice_get}
use Rattle.std.specs.List.{filter, range_with_len}
use Rattle.delf_model.specs.declared.schema.Schema.{Schema}
use Rattle.delf_model.specs.declared.schema.ObjectType.{ObjectType}
use Rattle.delf_model.specs.declared.schema.ObjectRule.{ObjectRule}
use Rattle.delf_model.specs.declared.schema.ObjectRule.TheVariants.{Directly, DirectlyOnly, ByAny, ShortTtl, NotDeleted}
use Rattle.delf_model.specs.RuleSet.{RuleSet}
use Rattle.delf_model.specs.Checked.{IsChecked, IsSpellable, numbered}
use Rattle.schema_checks.specs.Routes.{IsPrintedRoute}
use Rattle.job_report.specs.Texts.{checked_text, route_text}
use Rattle.documents.specs.declared.document.Document.{Document}
use Rattle.documents.specs.Documents.{IsDocument}
use Rattle.documents.specs.Names.{kind_name, edge_name}

-- the lines

abbrev pub is_by_any_rule : ObjectRule → Bool
is_by_any_rule Directly = false
is_by_any_rule DirectlyOnly = false
is_by_any_rule ByAny = true
is_by_any_rule (ShortTtl seconds) = false
is_by_any_rule NotDeleted = false

abbrev pub is_by_any_type : Option ObjectType → Bool
is_by_any_type None = false
is_by_any_type (Some object) = is_by_any_rule object.rule

abbrev pub is_by_any : Schema → ℕ → Bool
is_by_any schema kind = is_by_any_type (slice_get schema.objects kind)

-- the numbers of the first so many types that are `by_any`, in order
abbrev pub by_any_types : Schema → ℕ → List ℕ
by_any_types schema count = filter (is_by_any schema) (range_with_len 0 count)

-- these are the names of the edge types of a type's printed route, from the type backwards
abbrev pub AreRouteNames : Schema → ℕ → List (List ℕ) → Type 0
AreRouteNames schema kind names = (route : List ℕ) × (IsPrintedRoute (numbered schema) kind route × (names ≡ map (edge_name schema) route))

abbrev pub IsRouteLine : Schema → ℕ → List ℕ → Type 0
IsRouteLine schema kind line = (names : List (List ℕ)) × (AreRouteNames schema kind names × (line ≡ route_text (kind_name schema kind) names))

-- one line for each of these types, in this order
abbrev pub AreRouteLines : Schema → List ℕ → List ℕ → Type 0
AreRouteLines schema [] text = text ≡ []
AreRouteLines schema (kind ∷ more) text =
    (line : List ℕ) × ((rest : List ℕ) × (IsRouteLine schema kind line × (AreRouteLines schema more rest × (text ≡ line ++ rest))))

-- how many types there are, and the route of each that is `by_any`
pub record IsCheckText (schema : Schema) (text : List ℕ) : Type 0 where
  pub routes : List ℕ
  pub lines : AreRouteLines schema (by_any_types schema (length schema.objects)) routes
  pub text_is : text ≡ checked_text (length schema.objects) (length schema.edges) ++ routes

-- the rules are those of a checked schema
pub record AreRulesOf (schema : Schema) (rules : RuleSet) : Type 0 where
  pub spellable : IsSpellable schema
  pub checked : IsChecked schema
  pub rules_are : rules ≡ numbered schema

-- the bytes are a document, and `check` prints this text of its schema
pub record ChecksAs (blocks : Bool) (bytes text : List ℕ) : Type 0 where
  pub document : Document
  pub read : IsDocument blocks bytes document
  pub told : IsCheckText document.schema text
