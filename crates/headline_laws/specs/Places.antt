-- Where each command of a script stands, and whose each entry is.
use Rattle.std.specs.Prelude.{◌≡◌, ℕ, Bool, ◌<◌, ◌≤◌, true, false, Option, Some, None, Ok, Err, List, ◌∷◌, ◌++◌, length, take, slice_get}
use Rattle.delf_disk.specs.Causes.{Rose}
use Rattle.delf_model.specs.declared.schema.Schema.{Schema}
use Rattle.delf_model.specs.declared.call.Call.{Call}
use Rattle.delf_model.specs.declared.call.Refusal.{Refusal}
use Rattle.delf_model.specs.declared.entry.Entry.{Entry}
use Rattle.delf_model.specs.declared.entry.Tag.{Tag}
use Rattle.delf_model.specs.declared.entry.What.{What}
use Rattle.delf_model.specs.declared.script.Command.{Command}
use Rattle.delf_model.specs.declared.script.Command.TheVariants.{Submit, Par}
use Rattle.delf_model.specs.declared.script.Lane.{Lane}
use Rattle.delf_model.specs.declared.script.LaneCommand.TheVariants as lane
use Rattle.delf_model.specs.Step.{tag_of, after}
use Rattle.delf_model.specs.Reply.{reply}
use Rattle.delf_model.specs.Room.{moment_of}
use Rattle.delf_book.specs.Parts.{Interrupted}
use Rattle.delf_book.specs.Books.{given_by}
use Rattle.delf_book.specs.declared.answers.Receipt.{Receipt}
use Rattle.delf_service.specs.declared.answers.Answer.{Answer}
use Rattle.delf_service.specs.declared.replies.LaneOut.{LaneOut}
use Rattle.delf_service.specs.declared.replies.LaneReply.TheVariants.{Submitted}
use Rattle.delf_service.specs.Blocks.{lane_seat}
use Rattle.delf_service.specs.Standings.{seat_of}
use Rattle.delf_service.specs.Rows.{commands_at}
use Rattle.job_report.specs.Texts.{refusal_text, down_text}
use Rattle.script_runner.specs.Blocks.{RunsLanes}
use Rattle.script_runner.specs.Lines.{refusal_name}
use Rattle.script_runner.specs.Serial.{Serves, Script, answer, accepted_text, refused_down}
use Rattle.script_runner.specs.Worlds.{World, entry_now, interrupted, with_entry, fallen}

-- A command of a script, with those before it and behind it: the worlds that it found and left, the counts of the disk's faults
-- there, and its lines in the text of all.
pub record MadeAt (schema : Schema) (first : World) (commands : List Command) (before now : ℕ) (text : List ℕ) (last : World) (command : Command) : Type 0 where
  pub earlier : List Command
  pub later : List Command
  pub split : commands ≡ earlier ++ command ∷ later
  pub found : World
  pub left : World
  pub found_count : ℕ
  pub left_count : ℕ
  pub front : List ℕ
  pub line : List ℕ
  pub back : List ℕ
  pub leads : Script schema first earlier before found_count front found
  pub serves : Serves schema found command found_count left_count line left
  pub goes_on : Script schema left later left_count now back last
  pub text_is : text ≡ front ++ line ++ back

-- a call was accepted in this world, its line says so with the length of the history there, and the next world has its entry behind
pub record IsAcknowledged (schema : Schema) (found : World) (asked : Call) (before now : ℕ) (line : List ℕ) (left : World) (what : What) : Type 0 where
  pub up : found.down ≡ false
  pub count : now ≡ before
  pub is_answer : answer found asked ≡ Ok what
  pub line_is : line ≡ accepted_text schema found asked what
  pub left_is : left ≡ with_entry found what (given_by asked)

-- What came of a call: it was acknowledged; it was refused, and changed nothing; it met a disk fault, and its entry may stand
-- beside the history, which it leaves as it was; or the world was down.
pub data CallEnds (schema : Schema) (found : World) (asked : Call) (before now : ℕ) (line : List ℕ) (left : World) : Type 0 where
  Acknowledged : (what : What) → IsAcknowledged schema found asked before now line left what → CallEnds schema found asked before now line left
  Refused : (why : Refusal) → found.down ≡ false → now ≡ before → answer found asked ≡ Err why →
      line ≡ refusal_text why (length found.history) (refusal_name schema why) → left ≡ found → CallEnds schema found asked before now line left
  MetFault : (what : What) → found.down ≡ false → Rose before now → answer found asked ≡ Ok what → line ≡ down_text (length found.history) →
      left ≡ fallen found (Some (interrupted found what (given_by asked))) → CallEnds schema found asked before now line left
  WasDown : found.down ≡ true → now ≡ before → line ≡ refused_down found → left ≡ found → CallEnds schema found asked before now line left

-- the entry stands at this position, made by this seat, and no other position has an entry with its tag
pub record StandsOnce (history : List Entry) (seat position : ℕ) (entry : Entry) : Type 0 where
  pub tag : Tag
  pub tagged : tag_of entry.what ≡ Some tag
  pub by_seat : tag.seat ≡ seat
  pub there : slice_get history position ≡ Some entry
  pub once : (p : ℕ) (other : Entry) → slice_get history p ≡ Some other → tag_of other.what ≡ Some tag → p ≡ position

-- Whose the entry at this position of the last history is, where it has a tag: that of an acknowledged call of the script; one of a lane
-- of a block; or one of a call that met a disk fault, which stood beside the world that this command left, and a crash entered it.
pub data Whose (schema : Schema) (first : World) (commands : List Command) (before now : ℕ) (text : List ℕ) (last : World) (position : ℕ) (entry : Entry) : Type 0 where
  OfCall : (asked : Call) (what : What) (at : MadeAt schema first commands before now text last (Submit asked)) →
      IsAcknowledged schema at.found asked at.found_count at.left_count at.line at.left what → position ≡ length at.found.history → entry ≡ entry_now at.found what →
      Whose schema first commands before now text last position entry
  OfLane : (quiet : Bool) (workers turns : ℕ) (lanes : List Lane) (at : MadeAt schema first commands before now text last (Par quiet workers turns lanes))
      (runs : RunsLanes schema at.found quiet lanes at.found_count at.left_count at.line at.left) (place : ℕ) → place < length lanes →
      slice_get at.left.history position ≡ Some entry → seat_of entry ≡ Some (lane_seat runs.first place) →
      Whose schema first commands before now text last position entry
  OfFault : (command : Command) (at : MadeAt schema first commands before now text last command) (it : Interrupted) → at.found.down ≡ false → at.left.down ≡ true →
      at.left.beside ≡ Some it → position ≡ length at.left.history → entry ≡ it.entry → Whose schema first commands before now text last position entry
