-- What is known of a run that is done, in one piece.
use Rattle.std.specs.Prelude.{◌≡◌, ◌≤◌, ℕ, Bool, Some, List, length, slice_get}
use Rattle.delf_disk.specs.Areas.{Areas}
use Rattle.delf_model.specs.declared.schema.Schema.{Schema}
use Rattle.delf_model.specs.declared.call.Call.{Call}
use Rattle.delf_model.specs.declared.entry.Entry.{Entry}
use Rattle.delf_model.specs.declared.entry.Tag.{Tag}
use Rattle.delf_model.specs.declared.entry.What.{What}
use Rattle.delf_model.specs.declared.script.Command.{Command}
use Rattle.delf_model.specs.declared.script.Command.TheVariants.{Submit, Par}
use Rattle.delf_model.specs.declared.script.Lane.{Lane}
use Rattle.delf_model.specs.Step.{tag_of}
use Rattle.delf_service.specs.declared.replies.LaneOut.{LaneOut}
use Rattle.delf_service.specs.Blocks.{lane_seat}
use Rattle.delf_service.specs.Rows.{commands_at}
use Rattle.script_runner.specs.Blocks.{RunsLanes}
use Rattle.script_runner.specs.Outcomes.{Ran}
use Rattle.script_runner.specs.Worlds.{World, entry_now}
use Rattle.headline_laws.specs.Found.{StandFor}
use Rattle.headline_laws.specs.Lanes.{LaneStands}
use Rattle.headline_laws.specs.Onward.{GoesOn, IsSoundThroughout}
use Rattle.headline_laws.specs.Places.{MadeAt, IsAcknowledged, StandsOnce, Whose}

-- a command of what was run
abbrev pub IsMade : (schema : Schema) (first : World) (commands : List Command) (start : ℕ) → Ran schema first commands start → Command → Type 0
IsMade schema first commands start ran command = MadeAt schema first commands start ran.now ran.text ran.last command

-- The last history begins with the first, and is legal and sound at each length. Each acknowledged call stands in it once, at the
-- position that its line tells; each accepted call of a lane stands once, in its order; and each tagged entry behind the first history
-- is one of these, or was met by a disk fault. Whatever a crash may now leave, an opening finds this history and its payloads.
pub record Recovers (schema : Schema) (first : World) (commands : List Command) (start : ℕ) (ran : Ran schema first commands start) (images : Areas → Type 0) : Type 0 where
  pub onward : GoesOn first ran.last
  pub sound : IsSoundThroughout ran.last
  pub calls : (asked : Call) (what : What) (at : IsMade schema first commands start ran (Submit asked)) →
      IsAcknowledged schema at.found asked at.found_count at.left_count at.line at.left what →
      StandsOnce ran.last.history 0 (length at.found.history) (entry_now at.found what)
  pub lanes : (quiet : Bool) (workers turns : ℕ) (lanes : List Lane) (at : IsMade schema first commands start ran (Par quiet workers turns lanes))
      (runs : RunsLanes schema at.found quiet lanes at.found_count at.left_count at.line at.left) (place : ℕ) (out : LaneOut) → slice_get runs.outs place ≡ Some out →
      LaneStands (commands_at lanes place) runs.final at.found.clock (lane_seat runs.first place) out.replies at.left.history ran.last.history
  pub whose : (p : ℕ) (entry : Entry) (tag : Tag) → length first.history ≤ p → slice_get ran.last.history p ≡ Some entry → tag_of entry.what ≡ Some tag →
      Whose schema first commands start ran.now ran.text ran.last p entry
  pub found : (c : Areas) → images c → StandFor ran.last c
