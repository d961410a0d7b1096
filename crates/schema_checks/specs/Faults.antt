-- The line that a broken rule is told with.
use Rattle.std.specs.Prelude.{◌≡◌, ℕ, Option, Some, None, slice_get}
use Rattle.delf_model.specs.declared.schema.Schema.{Schema}
use Rattle.delf_model.specs.declared.schema.ObjectType.{ObjectType}
use Rattle.delf_model.specs.declared.schema.EdgeType.{EdgeType}
use Rattle.delf_model.specs.declared.rules.Broken.{Broken}
use Rattle.delf_model.specs.declared.rules.Broken.TheVariants as broken
use Rattle.delf_model.specs.Broken.{IsFirstBroken}
use Rattle.schema_checks.specs.declared.first_fault.Fault.{Fault}
use Rattle.schema_checks.specs.declared.first_fault.Fault.TheVariants.{Twice, Undeclared, CannotTake, NoRoute}
use Rattle.schema_checks.specs.declared.first_fault.CheckFault.{CheckFault}
use Rattle.schema_checks.specs.declared.first_fault.CheckFault.TheVariants.{Broken as Breaks, OutOfMemory}

abbrev pub object_line_of : Option ObjectType → ℕ
object_line_of (Some object) = object.line
object_line_of None = 0

abbrev pub edge_line_of : Option EdgeType → ℕ
edge_line_of (Some edge) = edge.line
edge_line_of None = 0

-- the line of the object type, or of the edge type, in this row
abbrev pub line_of_object : Schema → ℕ → ℕ
line_of_object schema row = object_line_of (slice_get schema.objects row)

abbrev pub line_of_edge : Schema → ℕ → ℕ
line_of_edge schema row = edge_line_of (slice_get schema.edges row)

-- a broken rule with the line of its row
abbrev pub fault_of : Schema → Broken → Fault
fault_of schema (broken.ObjectTwice row) = Twice (line_of_object schema row)
fault_of schema (broken.EdgeTwice row) = Twice (line_of_edge schema row)
fault_of schema (broken.Undeclared row target) = Undeclared (line_of_edge schema row) target
fault_of schema (broken.CannotTake row) = CannotTake (line_of_edge schema row)
fault_of schema (broken.NoRoute row) = NoRoute (line_of_object schema row)

-- the fault tells the first broken rule of the schema, or want of memory
abbrev pub IsCheckFault : Schema → CheckFault → Type 0
IsCheckFault schema (Breaks fault) = (first : Broken) × IsFirstBroken schema first × (fault ≡ fault_of schema first)
IsCheckFault schema OutOfMemory = Unit {0}
