-- The grammar of the schema part, apart from how a document is read: what each line form means at its place.
use Rattle.std.specs.Prelude.{◌≡◌, ℕ, ◌+◌, ◌-◌, ◌*◌, ◌≤◌, true, List, [], ◌∷◌, ◌++◌, length, codes}
use Rattle.std.specs.List.{list_all}
use Rattle.std.specs.Str.Lines.{lines}
use Rattle.delf_model.specs.Names.{is_name_code}
use Rattle.delf_model.specs.declared.schema.ObjectRule.{ObjectRule}
use Rattle.delf_model.specs.declared.schema.ObjectRule.TheVariants.{Directly, DirectlyOnly, ByAny, ShortTtl, NotDeleted}
use Rattle.delf_model.specs.declared.schema.EdgeRule.{EdgeRule}
use Rattle.delf_model.specs.declared.schema.EdgeRule.TheVariants.{Deep, Shallow, Refcount}
use Rattle.delf_model.specs.declared.schema.ObjectType.{ObjectType}
use Rattle.delf_model.specs.declared.schema.EdgeType.{EdgeType}
use Rattle.delf_model.specs.declared.schema.Schema.{Schema}
use Rattle.schema_lang.specs.declared.line.Word.{Word}
use Rattle.schema_lang.specs.declared.line.Word.TheVariants.{Plain}
use Rattle.schema_lang.specs.declared.fault.SchemaFault.{SchemaFault}
use Rattle.schema_lang.specs.declared.fault.SchemaFault.TheVariants.{Bad, OutOfMemory}
use Rattle.schema_lang.specs.declared.why.Why.TheVariants.{Malformed, OutOfRange}
use Rattle.schema_lang.specs.Spelled.{AreBlank, SpellsWords}
use Rattle.schema_lang.specs.Spelling.{IsSpellable}
use Rattle.schema_lang.specs.Grammar.{Part, Fault, line_after}

-- digits that stand behind others which spell `front`: together they spell n
abbrev pub AreDigits : ℕ → List ℕ → ℕ → Type 0
AreDigits front [] n = n ≡ front
AreDigits front (digit ∷ more) n = (48 ≤ digit) × (digit ≤ 57) × AreDigits (front * 10 + (digit - 48)) more n

-- a number: `0`, or a digit from 1 to 9 and any digits behind it; no sign, and no limit
pub data IsNumber (text : List ℕ) (n : ℕ) : Type 0 where
  Zero : text ≡ 48 ∷ [] → n ≡ 0 → IsNumber text n
  Decimal : (first : ℕ) → (more : List ℕ) → text ≡ first ∷ more → 49 ≤ first → first ≤ 57 → AreDigits (first - 48) more n → IsNumber text n

-- a name, of any length: at least one byte, and each one of a to z, 0 to 9 and _
pub record IsNameWord (text : List ℕ) : Type 0 where
  pub some : 1 ≤ length text
  pub each : list_all is_name_code text ≡ true

-- what stands behind the name of an object type
pub data IsObjectRule (words : List Word) (rule : ObjectRule) : Type 0 where
  IsDirectly : words ≡ Plain (codes "directly") ∷ [] → rule ≡ Directly → IsObjectRule words rule
  IsDirectlyOnly : words ≡ Plain (codes "directly_only") ∷ [] → rule ≡ DirectlyOnly → IsObjectRule words rule
  IsByAny : words ≡ Plain (codes "by_any") ∷ [] → rule ≡ ByAny → IsObjectRule words rule
  IsShortTtl : (text : List ℕ) → (seconds : ℕ) → words ≡ Plain (codes "short_ttl") ∷ Plain text ∷ [] → IsNumber text seconds →
      rule ≡ ShortTtl seconds → IsObjectRule words rule
  IsNotDeleted : words ≡ Plain (codes "not_deleted") ∷ [] → rule ≡ NotDeleted → IsObjectRule words rule

-- the word behind the ends of an edge type
pub data IsEdgeRule (text : List ℕ) (rule : EdgeRule) : Type 0 where
  IsDeep : text ≡ codes "deep" → rule ≡ Deep → IsEdgeRule text rule
  IsShallow : text ≡ codes "shallow" → rule ≡ Shallow → IsEdgeRule text rule
  IsRefcount : text ≡ codes "refcount" → rule ≡ Refcount → IsEdgeRule text rule

-- `object NAME RULE`, on the line of this number
pub record IsObjectLine (number : ℕ) (words : List Word) (object : ObjectType) : Type 0 where
  pub name : List ℕ
  pub rule : ObjectRule
  pub behind : List Word
  pub are : words ≡ Plain (codes "object") ∷ Plain name ∷ behind
  pub named : IsNameWord name
  pub ruled : IsObjectRule behind rule
  pub means : object ≡ record { name = name; rule = rule; line = number }

-- `edge NAME FROM TO RULE`, on the line of this number
pub record IsEdgeLine (number : ℕ) (words : List Word) (edge : EdgeType) : Type 0 where
  pub name : List ℕ
  pub source : List ℕ
  pub target : List ℕ
  pub text : List ℕ
  pub rule : EdgeRule
  pub are : words ≡ Plain (codes "edge") ∷ Plain name ∷ Plain source ∷ Plain target ∷ Plain text ∷ []
  pub named : IsNameWord name
  pub source_named : IsNameWord source
  pub target_named : IsNameWord target
  pub ruled : IsEdgeRule text rule
  pub means : edge ≡ record { name = name; from = source; to = target; rule = rule; line = number }

-- where the next line of a schema part stands: `schema 1` is owed; then `window N`; then types may follow these, in
-- any order; behind `script` no line is of this part
pub data Place : Type 0 where
  First : Place
  Second : Place
  Rows : Schema → Place
  Over : Schema → Place

-- The line forms: a line with this number and these words fits the first place, and the next line stands at the
-- second. Limits apart: numbers and names may be of any size, and there may be any number of types.
pub data Fits (number : ℕ) (words : List Word) : Place → Place → Type 0 where
  SchemaLine : words ≡ Plain (codes "schema") ∷ Plain (codes "1") ∷ [] → Fits number words First Second
  WindowLine : (text : List ℕ) → (window : ℕ) → words ≡ Plain (codes "window") ∷ Plain text ∷ [] → IsNumber text window →
      Fits number words Second (Rows (record { window = window; objects = []; edges = [] }))
  ObjectLine : (before : Schema) → (object : ObjectType) → IsObjectLine number words object →
      Fits number words (Rows before) (Rows (record { window = before.window; objects = before.objects ++ object ∷ []; edges = before.edges }))
  EdgeLine : (before : Schema) → (edge : EdgeType) → IsEdgeLine number words edge →
      Fits number words (Rows before) (Rows (record { window = before.window; objects = before.objects; edges = before.edges ++ edge ∷ [] }))
  ScriptLine : (before : Schema) → words ≡ Plain (codes "script") ∷ [] → Fits number words (Rows before) (Over before)

-- the limits: what was read so far is a schema of numbers, names and counts that it may have
abbrev pub IsWithin : Place → Type 0
IsWithin First = Unit {0}
IsWithin Second = Unit {0}
IsWithin (Rows schema) = IsSpellable schema
IsWithin (Over schema) = IsSpellable schema

-- a line that is skipped: it has no words, or its first word begins with #
pub data IsSkipped (line : List ℕ) : Type 0 where
  Blank : AreBlank line → IsSkipped line
  Comment : (before : List ℕ) → (after : List ℕ) → line ≡ before ++ 35 ∷ after → AreBlank before → IsSkipped line

-- a line that is not skipped, of these words
pub record Says (line : List ℕ) (words : List Word) : Type 0 where
  pub heard : IsSkipped line → ⊥
  pub spelled : SpellsWords line words

-- a place where lines are of this part
abbrev pub IsOpen : Place → Type 0
IsOpen First = Unit {0}
IsOpen Second = Unit {0}
IsOpen (Rows schema) = Unit {0}
IsOpen (Over schema) = ⊥

-- lines at a place, the first of this number, spell the rest of a schema part
pub data Spells : List (List ℕ) → ℕ → Place → Part → Type 0 where
  Ends : (number : ℕ) → (schema : Schema) → Spells [] number (Rows schema) (record { schema = schema; rest = []; next = number })
  Stops : (rest : List (List ℕ)) → (number : ℕ) → (schema : Schema) →
      Spells rest number (Over schema) (record { schema = schema; rest = rest; next = number })
  Skips : (line : List ℕ) → (rest : List (List ℕ)) → (number : ℕ) → (place : Place) → (part : Part) → IsOpen place → IsSkipped line →
      Spells rest (line_after number) place part → Spells (line ∷ rest) number place part
  Reads : (line : List ℕ) → (rest : List (List ℕ)) → (number : ℕ) → (place : Place) → (part : Part) → (words : List Word) → (next : Place) →
      Says line words → Fits number words place next → IsWithin next →
      Spells rest (line_after number) next part → Spells (line ∷ rest) number place part

-- a place where a line has to come
abbrev pub Owes : Place → Type 0
Owes First = Unit {0}
Owes Second = Unit {0}
Owes (Rows schema) = ⊥
Owes (Over schema) = ⊥

-- The first fault of lines at a place: one is missing where the lines end, or fits no form there, or fits one and
-- passes a limit; or it stands behind lines that are well.
pub data HasFault : List (List ℕ) → ℕ → Place → Fault → Type 0 where
  Missing : (number : ℕ) → (place : Place) → Owes place → HasFault [] number place (record { line = number; why = Malformed })
  Misfit : (line : List ℕ) → (rest : List (List ℕ)) → (number : ℕ) → (place : Place) → IsOpen place → (IsSkipped line → ⊥) →
      ((words : List Word) → (next : Place) → SpellsWords line words → Fits number words place next → ⊥) →
      HasFault (line ∷ rest) number place (record { line = number; why = Malformed })
  Excess : (line : List ℕ) → (rest : List (List ℕ)) → (number : ℕ) → (place : Place) → (words : List Word) → (next : Place) →
      Says line words → Fits number words place next → (IsWithin next → ⊥) →
      HasFault (line ∷ rest) number place (record { line = number; why = OutOfRange })
  BehindSkipped : (line : List ℕ) → (rest : List (List ℕ)) → (number : ℕ) → (place : Place) → (fault : Fault) → IsOpen place → IsSkipped line →
      HasFault rest (line_after number) place fault → HasFault (line ∷ rest) number place fault
  BehindRead : (line : List ℕ) → (rest : List (List ℕ)) → (number : ℕ) → (place : Place) → (fault : Fault) → (words : List Word) → (next : Place) →
      Says line words → Fits number words place next → IsWithin next →
      HasFault rest (line_after number) next fault → HasFault (line ∷ rest) number place fault

-- the bytes of a document spell this schema part, and their first fault there is this one
abbrev pub SpellsPart : List ℕ → Part → Type 0
SpellsPart bytes part = Spells (lines bytes) 1 First part

abbrev pub HasPartFault : List ℕ → Fault → Type 0
HasPartFault bytes fault = HasFault (lines bytes) 1 First fault

-- they spell this schema, whatever stands behind its part
abbrev pub SpellsSchema : List ℕ → Schema → Type 0
SpellsSchema bytes schema = (part : Part) × SpellsPart bytes part × (part.schema ≡ schema)

-- the fault that a call tells, unless memory runs out
abbrev pub IsTold : (Fault → Type 0) → SchemaFault → Type 0
IsTold Has (Bad line why) = Has (record { line = line; why = why })
IsTold Has OutOfMemory = Unit {0}
