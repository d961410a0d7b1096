-- Lines that spell a script are read as that script.
use Rattle.std.proofs.Common.{◌≡◌, ℕ, suc, ◌+◌, ◌≤◌, ◌<◌, Bool, true, false, cond, nat_lt, Option, None, Result, Ok, Err, List, [], ◌∷◌, ◌++◌, length, length-append, refl, sym, ap, subst, ◌∙◌, arith, append_assoc, append-nil, tests, rules, codes}
use Rattle.std.specs.Str.{bytes_eq}
use Rattle.std.proofs.lemmas.Bool.{lt-ltb}
use Rattle.std.proofs.lemmas.Slice.Eq.{bytes_eq-Decides}
use Rattle.delf_model.specs.declared.script.Command.{Command}
use Rattle.delf_model.specs.declared.script.Command.TheVariants.{Submit, Work, Tick, Get, Show, Job, Jobs, Report, Fail, Crash, Par}
use Rattle.delf_model.specs.declared.script.Lane.{Lane}
use Rattle.delf_model.specs.declared.script.LaneCommand.{LaneCommand}
use Rattle.delf_model.specs.declared.schema.Schema.{Schema}
use Rattle.schema_lang.specs.declared.line.Word.{Word}
use Rattle.schema_lang.specs.declared.line.Line.{Line}
use Rattle.schema_lang.specs.declared.line.Line.TheVariants.{Skipped, Faulty, Words}
use Rattle.schema_lang.specs.Words.{line_of}
use Rattle.schema_lang.specs.Rows.{word_text}
use Rattle.schema_lang.specs.Grammar.{line_after}
use Rattle.script_lang.specs.declared.fault.Wrong.{Wrong}
use Rattle.script_lang.specs.declared.fault.Wrong.TheVariants.{OutOfRange}
use Rattle.script_lang.specs.declared.command.ScriptLine.{ScriptLine}
use Rattle.script_lang.specs.declared.command.ScriptLine.TheVariants.{Serial, Block}
use Rattle.script_lang.specs.declared.command.BlockHead.{BlockHead}
use Rattle.script_lang.specs.declared.block.LaneLine.{LaneLine}
use Rattle.script_lang.specs.declared.block.LaneLine.TheVariants.{Begin, Within, End}
use Rattle.script_lang.specs.declared.place.OpenBlock.{OpenBlock}
use Rattle.script_lang.specs.declared.place.Place.{Place}
use Rattle.script_lang.specs.declared.place.Place.TheVariants.{Outside, Opened, InLane}
use Rattle.script_lang.specs.declared.place.Reading.{Reading}
use Rattle.script_lang.specs.Commands.{script_line}
use Rattle.script_lang.specs.Blocks.{lane_line, is_lane_line, mark_line, within_or}
use Rattle.script_lang.specs.Calls.{call_line}
use Rattle.script_lang.specs.Scripts.{Fault, behind_words, behind_line, behind_script_line, behind_head, behind_lane_line, in_lane, all_lanes, at_the_end, script_from, script_of, at_line, ◌>>=◌}
use Rattle.script_lang.specs.Forms.{IsSaid, AreSaid, SpellCommands, SpellLanes, SpellBlock, SpellsSerial, SpellsCommand, SpellScript}

-- what was read behind the words of some lines
abbrev then : Result Reading Wrong → (Reading → Result Reading Wrong) → Result Reading Wrong
then (Ok reading) more = more reading
then (Err wrong) more = Err wrong

abbrev run : Schema → List (List Word) → Reading → Result Reading Wrong
run schema [] reading = Ok reading
run schema (words ∷ rest) reading = then (behind_words schema true reading words) (run schema rest)

-- the same line by line, with numbers

run_line : (schema : Schema) (lines : List (List ℕ)) (number : ℕ) (rest : List (List Word)) (next : Result Reading Wrong)
    (script : List Command) →
    ((reading : Reading) → run schema rest reading ≡ Ok (record { commands = script; place = Outside }) →
    script_from schema true lines (line_after number) reading ≡ Ok script) →
    then next (run schema rest) ≡ Ok (record { commands = script; place = Outside }) →
    (at_line number next >>= script_from schema true lines (line_after number)) ≡ Ok script
run_line schema lines number rest (Ok next) script more ran = more next ran
run_line schema lines number rest (Err wrong) script more ran =
    let two : Err wrong ≡ Ok (record { commands = script; place = Outside }) = ran in cc

by_said : (schema : Schema) (lines : List (List ℕ)) (number : ℕ) (reading : Reading) (line : Line) (said : List (List Word)) (script : List Command) →
    ((rest : List (List Word)) (next : Reading) → AreSaid lines rest → run schema rest next ≡ Ok (record { commands = script; place = Outside }) →
    script_from schema true lines (line_after number) next ≡ Ok script) →
    IsSaid line said (AreSaid lines) → run schema said reading ≡ Ok (record { commands = script; place = Outside }) →
    (behind_line schema true number reading line >>= script_from schema true lines (line_after number)) ≡ Ok script
unfolding behind_line
by_said schema lines number reading Skipped said script more is ran = more said reading is ran
by_said schema lines number reading Faulty said script more is ran = absurd is
by_said schema lines number reading (Words words) said script more is ran =
    run_line schema lines number is.0 (behind_words schema true reading words) script
    (λ next ends. more is.0 next is.2 ends)
    (ap (λ (ws : List (List Word)). run schema ws reading) (sym is.1) ∙ ran)

read_lines : (schema : Schema) (lines : List (List ℕ)) (number : ℕ) (reading : Reading) (said : List (List Word)) (script : List Command) →
    AreSaid lines said → run schema said reading ≡ Ok (record { commands = script; place = Outside }) →
    script_from schema true lines number reading ≡ Ok script
unfolding script_from
read_lines schema [] number reading said script is ran =
    let e : Ok reading ≡ Ok (record { commands = script; place = Outside }) =
    sym (ap (λ (ws : List (List Word)). run schema ws reading) is) ∙ ran in
    let same : reading ≡ record { commands = script; place = Outside } = cc in
    ap (λ (r : Reading). at_the_end number r.commands r.place) same
read_lines schema (line ∷ lines) number reading said script is ran =
    by_said schema lines number reading (line_of line) said script
    (λ rest next said_rest ends. read_lines schema lines (line_after number) next rest script said_rest ends) is ran

-- one line on

module _ (schema : Schema) where
  one_on : (said : List (List Word)) (words : List Word) (rest : List (List Word)) (reading next : Reading) → said ≡ words ∷ rest →
      behind_words schema true reading words ≡ Ok next → run schema said reading ≡ run schema rest next
  one_on said words rest reading next is behind =
      ap (λ (ws : List (List Word)). run schema ws reading) is ∙ ap (λ (r : Result Reading Wrong). then r (run schema rest)) behind

  abbrev outside : List Command → Reading
  outside commands = record { commands = commands; place = Outside }

  abbrev opened : List Command → BlockHead → Reading
  opened commands head = record { commands = commands; place = Opened head }

  abbrev within : List Command → BlockHead → List Lane → List LaneCommand → Reading
  within commands head whole lane = record { commands = commands; place = in_lane head whole lane }

  serial_on : (commands : List Command) (command : Command) (words : List Word) → script_line schema true words ≡ Ok (Serial command) →
      behind_words schema true (outside commands) words ≡ Ok (outside (commands ++ command ∷ []))
  unfolding behind_words
  serial_on commands command words is = ap (behind_script_line commands) is

  head_on : (commands : List Command) (head : BlockHead) (words : List Word) → script_line schema true words ≡ Ok (Block head) →
      behind_words schema true (outside commands) words ≡ Ok (opened commands head)
  unfolding behind_words
  head_on commands head words is = ap (behind_script_line commands) is

  first_on : (commands : List Command) (head : BlockHead) (words : List Word) → is_lane_line words ≡ true →
      behind_words schema true (opened commands head) words ≡ Ok (within commands head [] [])
  unfolding behind_words
  first_on commands head words is = ap (behind_head commands head) is

  module _ (commands : List Command) (head : BlockHead) (whole : List Lane) (lane : List LaneCommand) (words : List Word) where
    abbrev block : OpenBlock
    block = record { head = head; whole = whole; commands = lane }

    command_on : (command : LaneCommand) → lane_line schema words ≡ Ok (Within command) →
        behind_words schema true (within commands head whole lane) words ≡ Ok (within commands head whole (lane ++ command ∷ []))
    unfolding behind_words
    command_on command is = ap (behind_lane_line commands block) is

    end_on : lane_line schema words ≡ Ok End →
        behind_words schema true (within commands head whole lane) words ≡ Ok (outside (commands ++ Par head.quiet head.workers head.turns (all_lanes block) ∷ []))
    unfolding behind_words
    end_on is = ap (behind_lane_line commands block) is

    lane_on : lane_line schema words ≡ Ok Begin → length (all_lanes block) < 16 →
        behind_words schema true (within commands head whole lane) words ≡ Ok (within commands head (all_lanes block) [])
    unfolding behind_words
    lane_on is room =
        ap (behind_lane_line commands block) is
        ∙ ap (λ (b : Bool). let next : Result Reading Wrong = cond b (Ok (within commands head (all_lanes block) [])) (Err OutOfRange) in next)
        (lt-ltb (length (all_lanes block)) 16 room)

  begin_of : (words : List Word) → is_lane_line words ≡ true → lane_line schema words ≡ Ok Begin
  unfolding lane_line
  begin_of [] is = cc
  begin_of (word ∷ []) is =
      let text : word_text word ≡ codes "lane" = (bytes_eq-Decides (word_text word) (codes "lane")).0 is in
      ap (λ (t : List ℕ). within_or (call_line schema t []) (mark_line t [])) text
  begin_of (word ∷ other ∷ more) is = cc

  -- the commands of a lane, then lanes, then whole blocks

  commands_on : (commands : List Command) (head : BlockHead) (whole : List Lane) (more lane : List LaneCommand) (said rest : List (List Word)) →
      SpellCommands schema more said rest → run schema said (within commands head whole lane) ≡ run schema rest (within commands head whole (lane ++ more))
  commands_on commands head whole [] lane said rest is =
      ap (λ (ws : List (List Word)). run schema ws (within commands head whole lane)) is
      ∙ ap (λ (l : List LaneCommand). run schema rest (within commands head whole l)) (sym (append-nil lane))
  commands_on commands head whole (command ∷ more) lane said rest is =
      one_on said is.0 is.1 (within commands head whole lane) (within commands head whole (lane ++ command ∷ [])) is.2
      (command_on commands head whole lane is.0 command is.3)
      ∙ commands_on commands head whole more (lane ++ command ∷ []) is.1 rest is.4
      ∙ ap (λ (l : List LaneCommand). run schema rest (within commands head whole l)) (append_assoc lane (command ∷ []) more)

  -- behind lanes and `end` stands the block with all of them
  abbrev ended : List Command → BlockHead → List Lane → Reading
  ended commands head lanes = outside (commands ++ Par head.quiet head.workers head.turns lanes ∷ [])

  lanes_on : (commands : List Command) (head : BlockHead) (last : List Word) (ends : lane_line schema last ≡ Ok End) (more : List Lane)
      (whole : List Lane) (lane : List LaneCommand) (said rest : List (List Word)) → length whole + length more < 16 →
      SpellLanes schema more said (last ∷ rest) →
      run schema said (within commands head whole lane) ≡ run schema rest (ended commands head ((whole ++ record { commands = lane } ∷ []) ++ more))
  lanes_on commands head last ends [] whole lane said rest room is =
      one_on said last rest (within commands head whole lane) (ended commands head (whole ++ record { commands = lane } ∷ [])) is
      (end_on commands head whole lane last ends)
      ∙ ap (λ (l : List Lane). run schema rest (ended commands head l)) (sym (append-nil (whole ++ record { commands = lane } ∷ [])))
  lanes_on commands head last ends (next ∷ more) whole lane said rest room is =
      let longer : length (whole ++ record { commands = lane } ∷ []) ≡ length whole + 1 = length-append whole (record { commands = lane } ∷ []) in
      one_on said is.0 is.1 (within commands head whole lane) (within commands head (whole ++ record { commands = lane } ∷ []) []) is.3
      (lane_on commands head whole lane is.0 (begin_of is.0 is.4) (omega arith))
      ∙ commands_on commands head (whole ++ record { commands = lane } ∷ []) next.commands [] is.1 is.2 is.5
      ∙ lanes_on commands head last ends more (whole ++ record { commands = lane } ∷ []) next.commands is.2 rest (omega arith) is.6
      ∙ ap (λ (l : List Lane). run schema rest (ended commands head l)) (append_assoc (whole ++ record { commands = lane } ∷ []) (next ∷ []) more)

  block_on : (commands : List Command) (head : BlockHead) (lanes : List Lane) (said rest : List (List Word)) → SpellBlock schema lanes said rest →
      run schema said (opened commands head) ≡ run schema rest (ended commands head lanes)
  block_on commands head [] said rest is = let some : 1 ≤ 0 = is.some in absurd (omega arith)
  block_on commands head (lane ∷ more) said rest is =
      let lanes = is.lanes_are in
      let room : suc (length more) ≤ 16 = is.room in
      one_on said lanes.0 lanes.1 (opened commands head) (within commands head [] []) lanes.3 (first_on commands head lanes.0 lanes.4)
      ∙ commands_on commands head [] lane.commands [] lanes.1 lanes.2 lanes.5
      ∙ lanes_on commands head is.last is.ends more [] lane.commands lanes.2 rest (omega arith) lanes.6

  serial_spelled : (commands : List Command) (command : Command) (said rest : List (List Word)) → SpellsSerial schema command said rest →
      run schema said (outside commands) ≡ run schema rest (outside (commands ++ command ∷ []))
  serial_spelled commands command said rest is =
      one_on said is.0 rest (outside commands) (outside (commands ++ command ∷ [])) is.1 (serial_on commands command is.0 is.2)

  command_spelled : (commands : List Command) (command : Command) (said rest : List (List Word)) → SpellsCommand schema command said rest →
      run schema said (outside commands) ≡ run schema rest (outside (commands ++ command ∷ []))
  command_spelled commands (Par quiet workers turns lanes) said rest is =
      let head : BlockHead = record { quiet = quiet; workers = workers; turns = turns } in
      one_on said is.0 is.1 (outside commands) (opened commands head) is.2 (head_on commands head is.0 is.3)
      ∙ block_on commands head lanes is.1 rest is.4
  command_spelled commands (Submit call) said rest is = serial_spelled commands (Submit call) said rest is
  command_spelled commands (Work n) said rest is = serial_spelled commands (Work n) said rest is
  command_spelled commands (Tick n) said rest is = serial_spelled commands (Tick n) said rest is
  command_spelled commands (Get id) said rest is = serial_spelled commands (Get id) said rest is
  command_spelled commands Show said rest is = serial_spelled commands Show said rest is
  command_spelled commands (Job name) said rest is = serial_spelled commands (Job name) said rest is
  command_spelled commands Jobs said rest is = serial_spelled commands Jobs said rest is
  command_spelled commands Report said rest is = serial_spelled commands Report said rest is
  command_spelled commands (Fail n) said rest is = serial_spelled commands (Fail n) said rest is
  command_spelled commands (Crash pick) said rest is = serial_spelled commands (Crash pick) said rest is

  script_spelled : (script commands : List Command) (said : List (List Word)) → SpellScript schema script said →
      run schema said (outside commands) ≡ Ok (outside (commands ++ script))
  script_spelled [] commands said is =
      ap (λ (ws : List (List Word)). run schema ws (outside commands)) is ∙ ap (λ (cs : List Command). Ok (outside cs)) (sym (append-nil commands))
  script_spelled (command ∷ script) commands said is =
      command_spelled commands command said is.0 is.1
      ∙ script_spelled script (commands ++ command ∷ []) is.0 is.2
      ∙ ap (λ (cs : List Command). Ok (outside cs)) (append_assoc commands (command ∷ []) script)

pub spelled_is_read : (schema : Schema) (lines : List (List ℕ)) (said : List (List Word)) (script : List Command) (first : ℕ) →
    AreSaid lines said → SpellScript schema script said → script_of schema true lines first ≡ Ok script
spelled_is_read schema lines said script first is spelled =
    read_lines schema lines first (record { commands = []; place = Outside }) said script is (script_spelled schema script [] said spelled)
