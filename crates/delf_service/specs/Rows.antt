-- A row: a seat and the replies of its lane, before it is run and after. Past the lanes it is a worker's.
use Rattle.std.specs.Prelude.{◌≡◌, ◌<◌, ◌≤◌, ℕ, ◌+◌, ◌*◌, Bool, false, List, [], Option, Some, None, length, slice_get}
use Rattle.delf_model.specs.declared.entry.Entry.{Entry}
use Rattle.delf_model.specs.declared.script.Lane.{Lane}
use Rattle.delf_model.specs.declared.script.LaneCommand.{LaneCommand}
use Rattle.seat_lock.specs.declared.view.View.{View}
use Rattle.seat_lock.specs.Views.{IsSameSeat}
use Rattle.delf_service.specs.declared.replies.LaneReply.{LaneReply}
use Rattle.delf_service.specs.declared.standing.Standing.{Standing}
use Rattle.delf_service.specs.Follows.{Follows, IsMoment}
use Rattle.delf_service.specs.Lanes.{HasCommand, LaneTold, Ended}
use Rattle.delf_service.specs.Turns.{Keeps}
use Rattle.delf_service.specs.Workers.{HasMade, LeavesOne, WorkerDone}

abbrev pub commands_in : Option Lane → List LaneCommand
commands_in None = []
commands_in (Some lane) = lane.commands

-- the commands of the lane at this place, none past the lanes
abbrev pub commands_at : List Lane → ℕ → List LaneCommand
commands_at lanes place = commands_in (slice_get lanes place)

-- a seat that has made nothing, with no replies and room for all
pub record IsReady (now : ℕ) (commands : List LaneCommand) (v : View Standing Entry) (replies : List LaneReply) (room : ℕ) : Type 0 where
  pub numbers : (k : ℕ) (c : LaneCommand) → slice_get commands k ≡ Some c → HasCommand v.seen.state.key.rules c
  pub number : v.number ≤ 64 * (length v.seen.state.history + 1)
  pub moment : IsMoment v.seen.state.key now
  pub made : v.made ≡ []
  pub none : replies ≡ []
  pub fits : length commands ≤ room

-- what the lane of a seat that had seen v was answered
pub record IsRun (now : ℕ) (commands : List LaneCommand) (v w : View Standing Entry) (replies : List LaneReply) (starved : Bool) : Type 0 where
  pub same : IsSameSeat v w
  pub later : Follows w.seen.state v.seen.state
  pub keeps : Keeps v w
  pub told : LaneTold w.remembers w.seen.state now v.number w.made commands replies
  pub end : starved ≡ false → Ended commands replies

-- its turns left as many lanes as they found, and behind them all it said that it is over
abbrev pub IsOver : Standing → Standing → Type 0
IsOver before after = (n : ℕ) × (last : Standing) × HasMade n before last × Follows last before × LeavesOne last after

-- what the row at this place came to: that of a lane said once that it is over, and that of a worker made its turns
pub record IsRowRun (now turns : ℕ) (lanes : List Lane) (place : ℕ) (v w : View Standing Entry) (replies : List LaneReply) (starved : Bool) : Type 0 where
  pub run : IsRun now (commands_at lanes place) v w replies starved
  pub lane : place < length lanes → IsOver v.seen.state w.seen.state
  pub worker : length lanes ≤ place → WorkerDone now turns v.seen.state w.seen.state
