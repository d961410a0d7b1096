-- How a schema is printed, and which schemas a document can spell.
use Rattle.std.specs.Prelude.{◌≡◌, ℕ, ◌≤◌, List, [], ◌∷◌, ◌++◌, length, map, codes, Ok}
use Rattle.std.specs.List.{flat_map, AllByRecursion}
use Rattle.std.specs.Fmt.{decimal}
use Rattle.delf_model.specs.Checked.{IsExpiry}
use Rattle.delf_model.specs.Names.{IsName}
use Rattle.delf_model.specs.declared.schema.ObjectRule.{ObjectRule}
use Rattle.delf_model.specs.declared.schema.ObjectRule.TheVariants.{Directly, DirectlyOnly, ByAny, ShortTtl, NotDeleted}
use Rattle.delf_model.specs.declared.schema.EdgeRule.{EdgeRule}
use Rattle.delf_model.specs.declared.schema.EdgeRule.TheVariants.{Deep, Shallow, Refcount}
use Rattle.delf_model.specs.declared.schema.ObjectType.{ObjectType}
use Rattle.delf_model.specs.declared.schema.EdgeType.{EdgeType}
use Rattle.delf_model.specs.declared.schema.Schema.{Schema}
use Rattle.schema_lang.specs.Grammar.{line_after, schema_of}

-- words with single spaces between them
abbrev pub spaced : List (List ℕ) → List ℕ
spaced [] = []
spaced (word ∷ others) = word ++ flat_map (λ other. 32 ∷ other) others

-- a line with its LF
abbrev pub printed_line : List (List ℕ) → List ℕ
printed_line words = spaced words ++ 10 ∷ []

abbrev pub object_rule_words : ObjectRule → List (List ℕ)
object_rule_words Directly = codes "directly" ∷ []
object_rule_words DirectlyOnly = codes "directly_only" ∷ []
object_rule_words ByAny = codes "by_any" ∷ []
object_rule_words (ShortTtl seconds) = codes "short_ttl" ∷ decimal seconds ∷ []
object_rule_words NotDeleted = codes "not_deleted" ∷ []

abbrev pub edge_rule_word : EdgeRule → List ℕ
edge_rule_word Deep = codes "deep"
edge_rule_word Shallow = codes "shallow"
edge_rule_word Refcount = codes "refcount"

abbrev pub object_words : ObjectType → List (List ℕ)
object_words object = codes "object" ∷ object.name ∷ object_rule_words object.rule

abbrev pub edge_words : EdgeType → List (List ℕ)
edge_words edge = codes "edge" ∷ edge.name ∷ edge.from ∷ edge.to ∷ edge_rule_word edge.rule ∷ []

abbrev pub header_words : List (List ℕ)
header_words = codes "schema" ∷ codes "1" ∷ []

abbrev pub window_words : ℕ → List (List ℕ)
window_words window = codes "window" ∷ decimal window ∷ []

-- the words of each line: the version, the window, the objects in order, the edges in order
abbrev pub schema_words : Schema → List (List (List ℕ))
schema_words schema = header_words ∷ window_words schema.window ∷ (map object_words schema.objects ++ map edge_words schema.edges)

abbrev pub spelling : Schema → List ℕ
spelling schema = flat_map printed_line (schema_words schema)

pub record FitsObject (object : ObjectType) : Type 0 where
  pub name : IsName object.name
  pub rule : IsExpiry object.rule

pub record FitsEdge (edge : EdgeType) : Type 0 where
  pub name : IsName edge.name
  pub source : IsName edge.from
  pub target : IsName edge.to

-- a schema that a document can spell: within all limits
pub record IsSpellable (schema : Schema) : Type 0 where
  pub window : schema.window ≤ 31536000
  pub objects : length schema.objects ≤ 64
  pub edges : length schema.edges ≤ 256
  pub each_object : AllByRecursion FitsObject schema.objects
  pub each_edge : AllByRecursion FitsEdge schema.edges

-- the same types with the numbers of the lines that they are printed on
abbrev pub objects_from : ℕ → List ObjectType → List ObjectType
objects_from line [] = []
objects_from line (object ∷ more) = record { name = object.name; rule = object.rule; line = line } ∷ objects_from (line_after line) more

abbrev pub edges_from : ℕ → List EdgeType → List EdgeType
edges_from line [] = []
edges_from line (edge ∷ more) = record { name = edge.name; from = edge.from; to = edge.to; rule = edge.rule; line = line } ∷ edges_from (line_after line) more

abbrev pub line_behind : {A : Type 0} → ℕ → List A → ℕ
line_behind line [] = line
line_behind line (x ∷ more) = line_behind (line_after line) more

-- the same schema, lines aside: the types stand on the lines from the third on
abbrev pub printed_schema : Schema → Schema
printed_schema schema = record { window = schema.window; objects = objects_from 3 schema.objects; edges = edges_from (line_behind 3 schema.objects) schema.edges }

-- the bytes spell the same schema
abbrev pub ReadsAs : List ℕ → Schema → Type 0
ReadsAs bytes schema = schema_of bytes ≡ Ok (printed_schema schema)
