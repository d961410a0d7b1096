-- The numbers in a script are those of types that its schema declares.
use Rattle.std.specs.Prelude.{◌<◌, length}
use Rattle.std.specs.List.{All}
use Rattle.delf_model.specs.declared.call.Call.{Call}
use Rattle.delf_model.specs.declared.call.Call.TheVariants.{Create, Update, Link, Unlink, Delete, Restore}
use Rattle.delf_model.specs.declared.script.Command.{Command}
use Rattle.delf_model.specs.declared.script.Command.TheVariants as command
use Rattle.delf_model.specs.declared.script.Lane.{Lane}
use Rattle.delf_model.specs.declared.script.LaneCommand.{LaneCommand}
use Rattle.delf_model.specs.declared.script.LaneCommand.TheVariants as lane
use Rattle.delf_model.specs.declared.schema.Schema.{Schema}
use Rattle.script_lang.specs.declared.place.OpenBlock.{OpenBlock}
use Rattle.script_lang.specs.declared.place.Place.{Place}
use Rattle.script_lang.specs.declared.place.Place.TheVariants.{Outside, Opened, InLane}
use Rattle.script_lang.specs.declared.place.Reading.{Reading}

-- the type or edge number in a call is below the count of its kind
abbrev pub CallNames : Schema → Call → Type 0
CallNames schema (Create kind id payload) = kind < length schema.objects
CallNames schema (Update id payload) = Unit {0}
CallNames schema (Link edge source target payload) = edge < length schema.edges
CallNames schema (Unlink edge source target name) = edge < length schema.edges
CallNames schema (Delete id name) = Unit {0}
CallNames schema (Restore name) = Unit {0}

abbrev pub LaneCommandNames : Schema → LaneCommand → Type 0
LaneCommandNames schema (lane.Submit call) = CallNames schema call
LaneCommandNames schema (lane.Get id) = Unit {0}

pub record LaneNames (schema : Schema) (lane : Lane) : Type 0 where
  pub commands : All (LaneCommandNames schema) lane.commands

-- so is each such number in the calls of a command
abbrev pub CommandNames : Schema → Command → Type 0
CommandNames schema (command.Submit call) = CallNames schema call
CommandNames schema (command.Par quiet workers turns lanes) = All (LaneNames schema) lanes
CommandNames schema other = Unit {0}

pub record BlockNames (schema : Schema) (block : OpenBlock) : Type 0 where
  pub whole : All (LaneNames schema) block.whole
  pub commands : All (LaneCommandNames schema) block.commands

abbrev pub PlaceNames : Schema → Place → Type 0
PlaceNames schema Outside = Unit {0}
PlaceNames schema (Opened head) = Unit {0}
PlaceNames schema (InLane block) = BlockNames schema block

pub record ReadingNames (schema : Schema) (reading : Reading) : Type 0 where
  pub commands : All (CommandNames schema) reading.commands
  pub place : PlaceNames schema reading.place
