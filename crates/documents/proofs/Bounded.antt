-- No block of a script has more than 16 lanes or 16 workers.
use Rattle.std.proofs.Common.{◌≡◌, ℕ, ◌+◌, ◌≤◌, ◌<◌, Bool, true, false, cond, Option, Some, None, Result, Ok, Err, List, [], ◌∷◌, ◌++◌, ◌&&◌, length, length-append, refl, sym, ap, subst, arith, codes, leb-true, ltb-true}
use Rattle.std.specs.Prelude.{IfOk, nat_le, nat_lt}
use Rattle.std.specs.List.{All}
use Rattle.std.specs.Str.{bytes_eq}
use Rattle.std.proofs.lemmas.List.Elements.{All-nil, All-push}
use Rattle.delf_model.specs.declared.call.Call.{Call}
use Rattle.delf_model.specs.declared.script.Command.{Command}
use Rattle.delf_model.specs.declared.script.Command.TheVariants.{Submit, Work, Tick, Get, Show, Job, Jobs, Report, Fail, Crash, Par}
use Rattle.delf_model.specs.declared.script.Lane.{Lane}
use Rattle.delf_model.specs.declared.script.LaneCommand.{LaneCommand}
use Rattle.delf_model.specs.declared.schema.Schema.{Schema}
use Rattle.schema_lang.specs.declared.why.Why.{Why}
use Rattle.schema_lang.specs.declared.why.Why.TheVariants as whys
use Rattle.schema_lang.specs.declared.line.Word.{Word}
use Rattle.schema_lang.specs.declared.line.Line.{Line}
use Rattle.schema_lang.specs.declared.line.Line.TheVariants.{Skipped, Faulty, Words}
use Rattle.schema_lang.specs.Words.{line_of}
use Rattle.schema_lang.specs.Rows.{word_text}
use Rattle.schema_lang.specs.Numbers.{is_number, number_value, number_in}
use Rattle.schema_lang.specs.Grammar.{line_after}
use Rattle.schema_lang.proofs.PrintLemmas.{both_true}
use Rattle.script_lang.specs.declared.fault.Wrong.{Wrong}
use Rattle.script_lang.specs.declared.fault.Wrong.TheVariants.{Malformed, OutOfRange}
use Rattle.script_lang.specs.declared.command.ScriptLine.{ScriptLine}
use Rattle.script_lang.specs.declared.command.ScriptLine.TheVariants.{Serial, Block}
use Rattle.script_lang.specs.declared.command.BlockHead.{BlockHead}
use Rattle.script_lang.specs.declared.block.LaneLine.{LaneLine}
use Rattle.script_lang.specs.declared.block.LaneLine.TheVariants.{Begin, Within, End}
use Rattle.script_lang.specs.declared.place.OpenBlock.{OpenBlock}
use Rattle.script_lang.specs.declared.place.Place.{Place}
use Rattle.script_lang.specs.declared.place.Place.TheVariants.{Outside, Opened, InLane}
use Rattle.script_lang.specs.declared.place.Reading.{Reading}
use Rattle.script_lang.specs.Parts.{mapped, both, number_part, as_part}
use Rattle.script_lang.specs.Blocks.{is_lane_line, lane_line}
use Rattle.script_lang.specs.Calls.{call_line}
use Rattle.script_lang.specs.Commands.{serial_line, block_head, par_line, opening_line, other_line, submitted_or, script_line}
use Rattle.script_lang.specs.Scripts.{Fault, behind_script_line, behind_head, behind_lane_line, next_lane, all_lanes, said_at, behind_words, at_line, behind_line, at_the_end, ◌>>=◌, script_from, script_of, nothing_read}
use Rattle.documents.specs.Names.{HasNoLanes}
use Rattle.documents.proofs.Unblocked.{either, serial_single}

-- at most 16 lanes and 16 workers
abbrev pub HasFewLanes : Command → Type 0
HasFewLanes (Par quiet workers turns lanes) = (length lanes ≤ 16) × (workers ≤ 16)
HasFewLanes other = Unit {0}

pub single_few : (command : Command) → HasNoLanes command → HasFewLanes command
single_few (Submit asked) single = tt
single_few (Work n) single = tt
single_few (Tick n) single = tt
single_few (Get id) single = tt
single_few Show single = tt
single_few (Job name) single = tt
single_few Jobs single = tt
single_few Report single = tt
single_few (Fail n) single = tt
single_few (Crash pick) single = tt
single_few (Par quiet workers turns lanes) single = absurd single

-- a first line of a block has few workers

abbrev IsHead : BlockHead → Type 0
IsHead head = head.workers ≤ 16

number_few : (text : List ℕ) (is within : Bool) → (within ≡ true → number_value text ≤ 16) →
    IfOk (as_part (cond is (cond within (Ok (number_value text)) (Err whys.OutOfRange)) (Err whys.Malformed))) (λ n. n ≤ 16)
number_few text true true low = low refl
number_few text true false low = tt
number_few text false within low = tt

workers_few : (word : Word) → IfOk (number_part 0 16 word) (λ n. n ≤ 16)
workers_few word =
    let text : List ℕ = word_text word in
    number_few text (is_number text) (nat_le 0 (number_value text) && nat_le (number_value text) 16)
    (λ within. leb-true (number_value text) 16 (both_true (nat_le 0 (number_value text)) (nat_le (number_value text) 16) within).1)

head_of : (quiet : Bool) (workers turns : Result ℕ Wrong) → IfOk workers (λ n. n ≤ 16) →
    IfOk (mapped (λ (found : ℕ × ℕ). record { quiet = quiet; workers = found.0; turns = found.1 }) (both workers turns)) IsHead
head_of quiet (Ok workers) (Ok turns) few = few
head_of quiet (Ok workers) (Err wrong) few = tt
head_of quiet (Err wrong) (Ok turns) few = tt
head_of quiet (Err wrong) (Err other) few = tt

head_few : (quiet : Bool) (words : List Word) → IfOk (block_head quiet words) IsHead
head_few quiet [] = tt
head_few quiet (workers ∷ []) = tt
head_few quiet (workers ∷ most ∷ []) = tt
head_few quiet (workers ∷ most ∷ turns ∷ []) = tt
head_few quiet (workers ∷ most ∷ turns ∷ steps ∷ []) =
    either (λ read. IfOk read IsHead) (bytes_eq (word_text workers) (codes "workers") && bytes_eq (word_text turns) (codes "turns")) _ (Err Malformed)
    (head_of quiet (number_part 0 16 most) (number_part 1 1000000 steps) (workers_few most)) tt
head_few quiet (workers ∷ most ∷ turns ∷ steps ∷ other ∷ more) = tt

par_few : (words : List Word) → IfOk (par_line words) IsHead
par_few [] = tt
par_few (word ∷ more) =
    either (λ read. IfOk read IsHead) (bytes_eq (word_text word) (codes "quiet")) (block_head true more) (block_head false (word ∷ more)) (head_few true more)
    (head_few false (word ∷ more))

-- a line outside of a block

abbrev IsFew : Result ScriptLine Wrong → Type 0
IsFew (Ok (Serial command)) = HasFewLanes command
IsFew (Ok (Block head)) = IsHead head
IsFew (Err wrong) = Unit {0}

serial_of : (read : Result Command Wrong) → IfOk read HasNoLanes → IsFew (mapped (λ command. Serial command) read)
serial_of (Ok command) is = single_few command is
serial_of (Err wrong) is = tt

block_of : (read : Result BlockHead Wrong) → IfOk read IsHead → IsFew (mapped (λ head. Block head) read)
block_of (Ok head) is = is
block_of (Err wrong) is = tt

other_few : (blocks : Bool) (keyword : List ℕ) (words : List Word) → IsFew (other_line blocks keyword words)
other_few blocks keyword words =
    either IsFew (bytes_eq keyword (codes "par")) (opening_line blocks words) (mapped (λ command. Serial command) (serial_line keyword words))
    (either IsFew blocks (mapped (λ head. Block head) (par_line words)) (Err Malformed) (block_of (par_line words) (par_few words)) tt)
    (serial_of (serial_line keyword words) (serial_single keyword words))

submitted_few : (read : Result (Option Call) Wrong) (other : Result ScriptLine Wrong) → IsFew other → IsFew (submitted_or read other)
submitted_few (Ok (Some call)) other is = tt
submitted_few (Ok None) other is = is
submitted_few (Err wrong) other is = tt

line_few : (schema : Schema) (blocks : Bool) (words : List Word) → IsFew (script_line schema blocks words)
unfolding script_line
line_few schema blocks [] = tt
line_few schema blocks (keyword ∷ words) =
    submitted_few (call_line schema (word_text keyword) words) (other_line blocks (word_text keyword) words) (other_few blocks (word_text keyword) words)

-- what was read so far

abbrev IsPlace : Place → Type 0
IsPlace Outside = Unit {0}
IsPlace (Opened head) = IsHead head
IsPlace (InLane block) = IsHead block.head × (length block.whole < 16)

record Bounded (reading : Reading) : Type 0 where
  place : IsPlace reading.place
  commands : All HasFewLanes reading.commands

after_line : (commands : List Command) (line : Result ScriptLine Wrong) → All HasFewLanes commands → IsFew line → IfOk (behind_script_line commands line) Bounded
after_line commands (Ok (Serial command)) all is = record { place = tt; commands = All-push HasFewLanes commands command all is }
after_line commands (Ok (Block head)) all is = record { place = is; commands = all }
after_line commands (Err wrong) all is = tt

after_head : (commands : List Command) (head : BlockHead) (is_lane : Bool) → All HasFewLanes commands → IsHead head → IfOk (behind_head commands head is_lane) Bounded
after_head commands head true all is = record { place = (is, omega arith); commands = all }
after_head commands head false all is = tt

next_by : (commands : List Command) (head : BlockHead) (whole : List Lane) (room : Bool) → (room ≡ true → length whole < 16) → All HasFewLanes commands → IsHead head →
    IfOk (cond room (Ok (record { commands = commands; place = InLane (record { head = head; whole = whole; commands = [] }) })) (Err OutOfRange)) Bounded
next_by commands head whole true low all is = record { place = (is, low refl); commands = all }
next_by commands head whole false low all is = tt

all_few : (block : OpenBlock) → length block.whole < 16 → length (all_lanes block) ≤ 16
all_few block low = omega (arith, low, length-append block.whole (record { commands = block.commands } ∷ []))

after_lane_line : (commands : List Command) (block : OpenBlock) (line : Result LaneLine Wrong) → All HasFewLanes commands → IsPlace (InLane block) →
    IfOk (behind_lane_line commands block line) Bounded
after_lane_line commands block (Ok Begin) all is =
    next_by commands block.head (all_lanes block) (nat_lt (length (all_lanes block)) 16) (ltb-true (length (all_lanes block)) 16) all is.0
after_lane_line commands block (Ok (Within command)) all is = record { place = is; commands = all }
after_lane_line commands block (Ok End) all is = record {
  place = tt;
  commands = All-push HasFewLanes commands (Par block.head.quiet block.head.workers block.head.turns (all_lanes block)) all (all_few block is.1, is.0);
}
after_lane_line commands block (Err wrong) all is = tt

said_few : (schema : Schema) (blocks : Bool) (commands : List Command) (place : Place) (words : List Word) → All HasFewLanes commands → IsPlace place →
    IfOk (said_at schema blocks commands place words) Bounded
said_few schema blocks commands Outside words all is = after_line commands (script_line schema blocks words) all (line_few schema blocks words)
said_few schema blocks commands (Opened head) words all is = after_head commands head (is_lane_line words) all is
said_few schema blocks commands (InLane block) words all is = after_lane_line commands block (lane_line schema words) all is

numbered : (number : ℕ) (read : Result Reading Wrong) → IfOk read Bounded → IfOk (at_line number read) Bounded
numbered number (Ok reading) is = is
numbered number (Err wrong) is = tt

module _ (schema : Schema) (blocks : Bool) where
  after_words : (reading : Reading) (words : List Word) → Bounded reading → IfOk (behind_words schema blocks reading words) Bounded
  unfolding behind_words
  after_words reading words so_far = said_few schema blocks reading.commands reading.place words so_far.commands so_far.place

  after : (number : ℕ) (reading : Reading) (line : Line) → Bounded reading → IfOk (behind_line schema blocks number reading line) Bounded
  unfolding behind_line
  after number reading Skipped so_far = so_far
  after number reading Faulty so_far = tt
  after number reading (Words words) so_far = numbered number (behind_words schema blocks reading words) (after_words reading words so_far)

  then : (next : Result Reading Fault) (more : Reading → Result (List Command) Fault) → IfOk next Bounded →
      ((reading : Reading) → Bounded reading → IfOk (more reading) (All HasFewLanes)) → IfOk (next >>= more) (All HasFewLanes)
  then (Ok reading) more is rest = rest reading is
  then (Err fault) more is rest = tt

  ended : (number : ℕ) (commands : List Command) (place : Place) → All HasFewLanes commands → IfOk (at_the_end number commands place) (All HasFewLanes)
  ended number commands Outside all = all
  ended number commands (Opened head) all = tt
  ended number commands (InLane block) all = tt

  bounded_from : (script : List (List ℕ)) (number : ℕ) (reading : Reading) → Bounded reading → IfOk (script_from schema blocks script number reading) (All HasFewLanes)
  unfolding script_from
  bounded_from [] number reading so_far = ended number reading.commands reading.place so_far.commands
  bounded_from (line ∷ rest) number reading so_far =
      then (behind_line schema blocks number reading (line_of line)) (script_from schema blocks rest (line_after number)) (after number reading (line_of line) so_far)
      (λ next is. bounded_from rest (line_after number) next is)

  pub bounded : (script : List (List ℕ)) (first : ℕ) (commands : List Command) → script_of schema blocks script first ≡ Ok commands → All HasFewLanes commands
  bounded script first commands is =
      subst (λ (read : Result (List Command) Fault). IfOk read (All HasFewLanes)) is
      (bounded_from script first nothing_read (record { place = tt; commands = All-nil HasFewLanes }))
