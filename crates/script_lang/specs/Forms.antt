-- Which lines spell which script, apart from how they are read one after the other.
use Rattle.std.specs.Prelude.{◌≡◌, ℕ, ◌≤◌, true, Ok, List, [], ◌∷◌, length}
use Rattle.delf_model.specs.declared.script.Command.{Command}
use Rattle.delf_model.specs.declared.script.Command.TheVariants.{Submit, Work, Tick, Get, Show, Job, Jobs, Report, Fail, Crash, Par}
use Rattle.delf_model.specs.declared.script.Lane.{Lane}
use Rattle.delf_model.specs.declared.script.LaneCommand.{LaneCommand}
use Rattle.delf_model.specs.declared.schema.Schema.{Schema}
use Rattle.schema_lang.specs.declared.line.Word.{Word}
use Rattle.schema_lang.specs.declared.line.Line.{Line}
use Rattle.schema_lang.specs.declared.line.Line.TheVariants.{Skipped, Faulty, Words}
use Rattle.schema_lang.specs.Words.{line_of}
use Rattle.script_lang.specs.declared.command.ScriptLine.TheVariants.{Serial, Block}
use Rattle.script_lang.specs.declared.block.LaneLine.TheVariants.{Begin, Within, End}
use Rattle.script_lang.specs.Commands.{script_line}
use Rattle.script_lang.specs.Blocks.{lane_line, is_lane_line}

-- these are the words of the lines that are not skipped, in order
abbrev pub IsSaid : Line → List (List Word) → (List (List Word) → Type 0) → Type 0
IsSaid Skipped said more = more said
IsSaid Faulty said more = ⊥
IsSaid (Words words) said more = (rest : List (List Word)) × (said ≡ words ∷ rest) × more rest

abbrev pub AreSaid : List (List ℕ) → List (List Word) → Type 0
AreSaid [] said = said ≡ []
AreSaid (line ∷ lines) said = IsSaid (line_of line) said (AreSaid lines)

-- a line for each command of a lane, and then the rest
abbrev pub SpellCommands : Schema → List LaneCommand → List (List Word) → List (List Word) → Type 0
SpellCommands schema [] said rest = said ≡ rest
SpellCommands schema (command ∷ more) said rest =
    (words : List Word) × (next : List (List Word)) × (said ≡ words ∷ next) × (lane_line schema words ≡ Ok (Within command))
    × SpellCommands schema more next rest

-- for each lane the line `lane` and its commands, and then the rest
abbrev pub SpellLanes : Schema → List Lane → List (List Word) → List (List Word) → Type 0
SpellLanes schema [] said rest = said ≡ rest
SpellLanes schema (lane ∷ more) said rest =
    (words : List Word) × (next : List (List Word)) × (behind : List (List Word)) × (said ≡ words ∷ next) × (is_lane_line words ≡ true)
    × SpellCommands schema lane.commands next behind × SpellLanes schema more behind rest

-- 1 to 16 lanes and `end`, and then the rest
pub record SpellBlock (schema : Schema) (lanes : List Lane) (said rest : List (List Word)) : Type 0 where
  pub some : 1 ≤ length lanes
  pub room : length lanes ≤ 16
  pub last : List Word
  pub ends : lane_line schema last ≡ Ok End
  pub lanes_are : SpellLanes schema lanes said (last ∷ rest)

abbrev pub SpellsSerial : Schema → Command → List (List Word) → List (List Word) → Type 0
SpellsSerial schema command said rest = (words : List Word) × (said ≡ words ∷ rest) × (script_line schema true words ≡ Ok (Serial command))

-- one command, and then the rest
abbrev pub SpellsCommand : Schema → Command → List (List Word) → List (List Word) → Type 0
SpellsCommand schema (Par quiet workers turns lanes) said rest =
    (words : List Word) × (next : List (List Word)) × (said ≡ words ∷ next)
    × (script_line schema true words ≡ Ok (Block (record { quiet = quiet; workers = workers; turns = turns })))
    × SpellBlock schema lanes next rest
SpellsCommand schema command said rest = SpellsSerial schema command said rest

abbrev pub SpellScript : Schema → List Command → List (List Word) → Type 0
SpellScript schema [] said = said ≡ []
SpellScript schema (command ∷ more) said = (rest : List (List Word)) × SpellsCommand schema command said rest × SpellScript schema more rest
