-- The names of types and edge types by number, and which numbers in a script are those of types that the rules have.
use Rattle.std.specs.Prelude.{◌≡◌, ◌<◌, ◌≤◌, ℕ, Option, Some, None, List, [], length, slice_get}
use Rattle.delf_model.specs.declared.schema.ObjectType.{ObjectType}
use Rattle.delf_model.specs.declared.schema.EdgeType.{EdgeType}
use Rattle.delf_model.specs.declared.schema.Schema.{Schema}
use Rattle.delf_model.specs.declared.call.Call.{Call}
use Rattle.delf_model.specs.declared.call.Call.TheVariants as call
use Rattle.delf_model.specs.declared.script.Command.{Command}
use Rattle.delf_model.specs.declared.script.Command.TheVariants.{Submit, Par}
use Rattle.delf_model.specs.declared.script.Lane.{Lane}
use Rattle.delf_model.specs.declared.script.LaneCommand.{LaneCommand}
use Rattle.delf_model.specs.declared.script.LaneCommand.TheVariants as lane
use Rattle.delf_model.specs.RuleSet.{RuleSet}
use Rattle.std.specs.List.{All}

abbrev pub name_of_type : Option ObjectType → List ℕ
name_of_type None = []
name_of_type (Some object) = object.name

abbrev pub kind_name : Schema → ℕ → List ℕ
kind_name schema kind = name_of_type (slice_get schema.objects kind)

abbrev pub name_of_edge_type : Option EdgeType → List ℕ
name_of_edge_type None = []
name_of_edge_type (Some edge) = edge.name

abbrev pub edge_name : Schema → ℕ → List ℕ
edge_name schema edge = name_of_edge_type (slice_get schema.edges edge)

-- the schema has a name for each type and each edge type of the rules
pub record HasNames (schema : Schema) (rules : RuleSet) : Type 0 where
  pub objects : length rules.objects ≡ length schema.objects
  pub edges : length rules.edges ≡ length schema.edges

abbrev pub IsNumberedCall : RuleSet → Call → Type 0
IsNumberedCall rules (call.Create kind id payload) = kind < length rules.objects
IsNumberedCall rules (call.Update id payload) = Unit {0}
IsNumberedCall rules (call.Link edge from to payload) = edge < length rules.edges
IsNumberedCall rules (call.Unlink edge from to name) = edge < length rules.edges
IsNumberedCall rules (call.Delete id name) = Unit {0}
IsNumberedCall rules (call.Restore name) = Unit {0}

abbrev pub IsNumberedLaneCommand : RuleSet → LaneCommand → Type 0
IsNumberedLaneCommand rules (lane.Submit asked) = IsNumberedCall rules asked
IsNumberedLaneCommand rules (lane.Get id) = Unit {0}

pub record IsNumberedLane (rules : RuleSet) (lane : Lane) : Type 0 where
  pub commands : All (IsNumberedLaneCommand rules) lane.commands

-- at most 16 lanes and 16 workers
pub record IsNumberedBlock (rules : RuleSet) (workers : ℕ) (lanes : List Lane) : Type 0 where
  pub few_lanes : length lanes ≤ 16
  pub few_workers : workers ≤ 16
  pub each : All (IsNumberedLane rules) lanes

abbrev pub IsNumberedCommand : RuleSet → Command → Type 0
IsNumberedCommand rules (Submit asked) = IsNumberedCall rules asked
IsNumberedCommand rules (Par quiet workers turns lanes) = IsNumberedBlock rules workers lanes
IsNumberedCommand rules other = Unit {0}

-- no block of lanes
abbrev pub HasNoLanes : Command → Type 0
HasNoLanes (Par quiet workers turns lanes) = ⊥
HasNoLanes other = Unit {0}
