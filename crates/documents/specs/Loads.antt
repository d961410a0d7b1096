-- What a load makes: the generated script, where without `blocks` each block is made lane after lane. And how many jobs were restored.
use Rattle.std.specs.Prelude.{◌≡◌, ℕ, Bool, true, false, List, [], ◌∷◌, ◌++◌, length, map, flat_map}
use Rattle.std.specs.List.{filter}
use Rattle.delf_model.specs.declared.call.JobLine.{JobLine}
use Rattle.delf_model.specs.declared.call.Status.{Status}
use Rattle.delf_model.specs.declared.call.Status.TheVariants as status
use Rattle.delf_model.specs.declared.script.Command.{Command}
use Rattle.delf_model.specs.declared.script.Command.TheVariants.{Submit, Work, Tick, Get, Show, Job, Jobs, Report, Fail, Crash, Par}
use Rattle.delf_model.specs.declared.script.Lane.{Lane}
use Rattle.delf_model.specs.declared.script.LaneCommand.{LaneCommand}
use Rattle.delf_model.specs.declared.script.LaneCommand.TheVariants as lane
use Rattle.delf_model.specs.Checked.{numbered}
use Rattle.script_lang.specs.Generated.{generated_schema, generated_script}
use Rattle.documents.specs.declared.document.Document.{Document}

-- a command of a lane, made outside of a block
abbrev pub made_alone : LaneCommand → Command
made_alone (lane.Submit asked) = Submit asked
made_alone (lane.Get id) = Get id

abbrev pub lane_alone : Lane → List Command
lane_alone lane = map made_alone lane.commands

-- the lanes one after the other, then steps until none is left: no history has a million entries
abbrev pub block_alone : List Lane → List Command
block_alone lanes = flat_map lane_alone lanes ++ Work 1000000 ∷ []

abbrev pub made_in_turn : Command → List Command
made_in_turn (Submit asked) = Submit asked ∷ []
made_in_turn (Work n) = Work n ∷ []
made_in_turn (Tick n) = Tick n ∷ []
made_in_turn (Get id) = Get id ∷ []
made_in_turn Show = Show ∷ []
made_in_turn (Job name) = Job name ∷ []
made_in_turn Jobs = Jobs ∷ []
made_in_turn Report = Report ∷ []
made_in_turn (Fail n) = Fail n ∷ []
made_in_turn (Crash pick) = Crash pick ∷ []
made_in_turn (Par quiet workers turns lanes) = block_alone lanes

-- a script without its blocks
abbrev pub load_commands : List Command → List Command
load_commands script = flat_map made_in_turn script

abbrev pub commands_of : Bool → List Command → List Command
commands_of true script = script
commands_of false script = load_commands script

-- a command that keeps the store open and gives its disk no order
abbrev pub IsStill : Command → Type 0
IsStill (Fail n) = ⊥
IsStill (Crash pick) = ⊥
IsStill other = Unit {0}

-- what a load of so many objects makes, as a document would say it
pub record IsLoad (blocks : Bool) (n : ℕ) (document : Document) : Type 0 where
  pub schema : document.schema ≡ generated_schema
  pub rules : document.rules ≡ numbered generated_schema
  pub commands : document.commands ≡ commands_of blocks (generated_script n)

-- what a load of n objects makes is some document, of which this holds
pub record OfLoad (blocks : Bool) (n : ℕ) (P : Document → Type 0) : Type 0 where
  pub document : Document
  pub load : IsLoad blocks n document
  pub holds : P document

-- jobs that were restored

abbrev pub is_restored_status : Status → Bool
is_restored_status status.NoJob = false
is_restored_status (status.Pending owned) = false
is_restored_status (status.Done erased cut last) = false
is_restored_status (status.Restoring left) = false
is_restored_status (status.Restored put listed) = true
is_restored_status status.Purged = false

abbrev pub is_restored : JobLine → Bool
is_restored line = is_restored_status line.status

-- how many of these jobs were restored
abbrev pub restored_count : List JobLine → ℕ
restored_count lines = length (filter is_restored lines)
