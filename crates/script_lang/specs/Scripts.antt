-- The script part of a document: the commands that its lines say, or their first fault.
use Rattle.std.specs.Prelude.{ℕ, Bool, Result, Ok, Err, List, [], ◌∷◌, ◌++◌, length, nat_lt, if◌then◌else◌, codes}
use Rattle.delf_model.specs.declared.script.Command.{Command}
use Rattle.delf_model.specs.declared.script.Command.TheVariants.{Par}
use Rattle.delf_model.specs.declared.script.Lane.{Lane}
use Rattle.delf_model.specs.declared.script.LaneCommand.{LaneCommand}
use Rattle.delf_model.specs.declared.schema.Schema.{Schema}
use Rattle.schema_lang.specs.declared.line.Word.{Word}
use Rattle.schema_lang.specs.declared.line.Line.{Line}
use Rattle.schema_lang.specs.declared.line.Line.TheVariants.{Skipped, Faulty, Words}
use Rattle.schema_lang.specs.Words.{line_of}
use Rattle.schema_lang.specs.Grammar.{line_after}
use Rattle.script_lang.specs.declared.fault.Wrong.{Wrong}
use Rattle.script_lang.specs.declared.fault.Wrong.TheVariants.{Malformed, OutOfRange, Unknown}
use Rattle.script_lang.specs.declared.command.ScriptLine.{ScriptLine}
use Rattle.script_lang.specs.declared.command.ScriptLine.TheVariants.{Serial, Block}
use Rattle.script_lang.specs.declared.command.BlockHead.{BlockHead}
use Rattle.script_lang.specs.declared.block.LaneLine.{LaneLine}
use Rattle.script_lang.specs.declared.block.LaneLine.TheVariants.{Begin, Within, End}
use Rattle.script_lang.specs.declared.place.OpenBlock.{OpenBlock}
use Rattle.script_lang.specs.declared.place.Place.{Place}
use Rattle.script_lang.specs.declared.place.Place.TheVariants.{Outside, Opened, InLane}
use Rattle.script_lang.specs.declared.place.Reading.{Reading}
use Rattle.script_lang.specs.Commands.{script_line}
use Rattle.script_lang.specs.Blocks.{is_lane_line, lane_line}

-- what is wrong, told in words, and with which line
pub record Fault : Type 0 where
  pub line : ℕ
  pub text : List ℕ

abbrev pub text_of : Wrong → List ℕ
text_of Malformed = codes "malformed"
text_of OutOfRange = codes "out of range"
text_of (Unknown name) = codes "unknown name " ++ name

-- A line outside of a block is a command, or opens a block.
abbrev pub behind_script_line : List Command → Result ScriptLine Wrong → Result Reading Wrong
behind_script_line commands (Ok (Serial command)) = Ok (record { commands = commands ++ command ∷ []; place = Outside })
behind_script_line commands (Ok (Block head)) = Ok (record { commands = commands; place = Opened head })
behind_script_line commands (Err wrong) = Err wrong

abbrev pub in_lane : BlockHead → List Lane → List LaneCommand → Place
in_lane head whole commands = InLane (record { head = head; whole = whole; commands = commands })

-- The first line in a block begins its first lane.
abbrev pub behind_head : List Command → BlockHead → Bool → Result Reading Wrong
behind_head commands head is_lane = if is_lane then Ok (record { commands = commands; place = in_lane head [] [] }) else Err Malformed

-- the lanes of a block, with the one that is read last
abbrev pub all_lanes : OpenBlock → List Lane
all_lanes block = block.whole ++ record { commands = block.commands } ∷ []

-- the commands with a whole block behind them
abbrev pub with_block : List Command → BlockHead → List Lane → List Command
with_block commands head lanes = commands ++ Par head.quiet head.workers head.turns lanes ∷ []

-- the block with one command more in its last lane
abbrev pub with_command : OpenBlock → LaneCommand → OpenBlock
with_command block command = record { head = block.head; whole = block.whole; commands = block.commands ++ command ∷ [] }

-- A block has at most 16 lanes.
abbrev pub next_lane : List Command → BlockHead → List Lane → Result Reading Wrong
next_lane commands head whole =
    if nat_lt (length whole) 16 then Ok (record { commands = commands; place = in_lane head whole [] }) else Err OutOfRange

-- A line in a lane is a command of the lane, begins the next lane, or ends the block.
abbrev pub behind_lane_line : List Command → OpenBlock → Result LaneLine Wrong → Result Reading Wrong
behind_lane_line commands block (Ok Begin) = next_lane commands block.head (all_lanes block)
behind_lane_line commands block (Ok (Within command)) =
    Ok (record { commands = commands; place = InLane (with_command block command) })
behind_lane_line commands block (Ok End) =
    Ok (record { commands = with_block commands block.head (all_lanes block); place = Outside })
behind_lane_line commands block (Err wrong) = Err wrong

-- what the words of a line say at their place, behind these commands
abbrev pub said_at : Schema → Bool → List Command → Place → List Word → Result Reading Wrong
said_at schema blocks commands Outside words = behind_script_line commands (script_line schema blocks words)
said_at schema blocks commands (Opened head) words = behind_head commands head (is_lane_line words)
said_at schema blocks commands (InLane block) words = behind_lane_line commands block (lane_line schema words)

unfoldable pub behind_words : Schema → Bool → Reading → List Word → Result Reading Wrong
behind_words schema blocks reading words = said_at schema blocks reading.commands reading.place words

abbrev pub at_line : {A : Type 0} → ℕ → Result A Wrong → Result A Fault
at_line number (Ok x) = Ok x
at_line number (Err wrong) = Err (record { line = number; text = text_of wrong })

-- what was read behind a line: a skipped one says nothing, and one with a malformed payload fits no line
unfoldable pub behind_line : Schema → Bool → ℕ → Reading → Line → Result Reading Fault
behind_line schema blocks number reading Skipped = Ok reading
behind_line schema blocks number reading Faulty = at_line number (Err Malformed)
behind_line schema blocks number reading (Words words) = at_line number (behind_words schema blocks reading words)

-- where the lines end nothing may be owed: each block has its `end`
abbrev pub at_the_end : ℕ → List Command → Place → Result (List Command) Fault
at_the_end number commands Outside = Ok commands
at_the_end number commands (Opened head) = at_line number (Err Malformed)
at_the_end number commands (InLane block) = at_line number (Err Malformed)

infixl 10 ◌>>=◌
abbrev pub ◌>>=◌ : {A B : Type 0} → Result A Fault → (A → Result B Fault) → Result B Fault
(Ok x) >>= f = f x
(Err fault) >>= f = Err fault

-- the commands of these lines, the first of which has this number, behind what was read so far
unfoldable pub script_from : Schema → Bool → List (List ℕ) → ℕ → Reading → Result (List Command) Fault
script_from schema blocks [] number reading = at_the_end number reading.commands reading.place
script_from schema blocks (line ∷ rest) number reading =
    behind_line schema blocks number reading (line_of line) >>= script_from schema blocks rest (line_after number)

abbrev pub nothing_read : Reading
nothing_read = record { commands = []; place = Outside }

-- the script that these lines spell under a schema, with blocks or without; the first line has this number
abbrev pub script_of : Schema → Bool → List (List ℕ) → ℕ → Result (List Command) Fault
script_of schema blocks script first = script_from schema blocks script first nothing_read
