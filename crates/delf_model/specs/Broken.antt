-- The first broken rule of a schema, and the faults that tell it.
use Rattle.std.specs.Prelude.{length}
use Rattle.delf_model.specs.declared.schema.Schema.{Schema}
use Rattle.delf_model.specs.declared.rules.Broken.{Broken}
use Rattle.delf_model.specs.declared.rules.Broken.TheVariants.{ObjectTwice, EdgeTwice, Undeclared, CannotTake, NoRoute}
use Rattle.delf_model.specs.declared.rules.JudgeFault.{JudgeFault}
use Rattle.delf_model.specs.declared.rules.JudgeFault.TheVariants.{Breaks, OutOfMemory}
use Rattle.delf_model.specs.RuleSet.{RuleSet}
use Rattle.delf_model.specs.Checked.{IsFirstRow, NoRow, IsRepeated, LacksEnd, IsFirstUndeclared, CondemnsUntaken, LacksRoute, object_names, edge_names, numbered}

-- no object type name and no edge type name stands twice
abbrev pub ObjectNamesOnce : Schema → Type 0
ObjectNamesOnce schema = NoRow (length schema.objects) (IsRepeated (object_names schema))

abbrev pub EdgeNamesOnce : Schema → Type 0
EdgeNamesOnce schema = NoRow (length schema.edges) (IsRepeated (edge_names schema))

-- the first broken rule of annotations by number: an end that is no type, a target that no edge may condemn, a by_any
-- type with no route
abbrev pub BreaksFirst : RuleSet → Broken → Type 0
BreaksFirst rules (ObjectTwice row) = ⊥
BreaksFirst rules (EdgeTwice row) = ⊥
BreaksFirst rules (Undeclared row target) = IsFirstUndeclared rules row target
BreaksFirst rules (CannotTake row) =
    NoRow (length rules.edges) (LacksEnd rules) × IsFirstRow (length rules.edges) (CondemnsUntaken rules) row
BreaksFirst rules (NoRoute row) =
    NoRow (length rules.edges) (LacksEnd rules)
    × NoRow (length rules.edges) (CondemnsUntaken rules)
    × IsFirstRow (length rules.objects) (LacksRoute rules) row

-- the first broken rule of a schema, by the order of the rules and then of the rows
abbrev pub IsFirstBroken : Schema → Broken → Type 0
IsFirstBroken schema (ObjectTwice row) = IsFirstRow (length schema.objects) (IsRepeated (object_names schema)) row
IsFirstBroken schema (EdgeTwice row) =
    ObjectNamesOnce schema × IsFirstRow (length schema.edges) (IsRepeated (edge_names schema)) row
IsFirstBroken schema (Undeclared row target) =
    ObjectNamesOnce schema × EdgeNamesOnce schema × BreaksFirst (numbered schema) (Undeclared row target)
IsFirstBroken schema (CannotTake row) =
    ObjectNamesOnce schema × EdgeNamesOnce schema × BreaksFirst (numbered schema) (CannotTake row)
IsFirstBroken schema (NoRoute row) =
    ObjectNamesOnce schema × EdgeNamesOnce schema × BreaksFirst (numbered schema) (NoRoute row)

-- a fault tells the first broken rule, or want of memory
abbrev pub IsNumbersFault : RuleSet → JudgeFault → Type 0
IsNumbersFault rules (Breaks broken) = BreaksFirst rules broken
IsNumbersFault rules OutOfMemory = Unit {0}

abbrev pub IsJudgeFault : Schema → JudgeFault → Type 0
IsJudgeFault schema (Breaks broken) = IsFirstBroken schema broken
IsJudgeFault schema OutOfMemory = Unit {0}
