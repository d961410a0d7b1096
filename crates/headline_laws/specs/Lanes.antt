-- What stands of the calls of a lane.
use Rattle.std.specs.Prelude.{◌≡◌, ℕ, ◌<◌, Some, Ok, List, slice_get}
use Rattle.delf_model.specs.declared.call.Call.{Call}
use Rattle.delf_model.specs.declared.entry.Entry.{Entry}
use Rattle.delf_model.specs.declared.entry.What.{What}
use Rattle.delf_model.specs.declared.script.LaneCommand.{LaneCommand}
use Rattle.delf_model.specs.declared.script.LaneCommand.TheVariants as lane
use Rattle.delf_model.specs.Reply.{reply}
use Rattle.delf_model.specs.Room.{moment_of}
use Rattle.delf_book.specs.declared.answers.Receipt.{Receipt}
use Rattle.delf_service.specs.declared.answers.Answer.{Answer}
use Rattle.delf_service.specs.declared.replies.LaneReply.{LaneReply}
use Rattle.delf_service.specs.declared.replies.LaneReply.TheVariants.{Submitted}
use Rattle.delf_service.specs.declared.standing.Standing.{Standing}
use Rattle.delf_service.specs.Lanes.{state_before, entry_before, accepted}
use Rattle.delf_service.specs.Standings.{seat_of}
use Rattle.seat_lock.specs.Views.{made_by}
use Rattle.headline_laws.specs.Places.{StandsOnce}

-- An accepted call of a lane: it is the command of its reply, its entry is the answer of the book at the length where it was accepted,
-- and stands there once in this history, made by the seat of the lane.
pub record LaneCallStands (commands : List LaneCommand) (k : ℕ) (final : Standing) (clock seat : ℕ) (a : Answer) (receipt : Receipt) (history : List Entry) : Type 0 where
  pub call : Call
  pub is_asked : slice_get commands k ≡ Some (lane.Submit call)
  pub what : What
  pub is_reply : reply (state_before final a.at) (moment_of (state_before final a.at) clock) seat call ≡ Ok what
  pub position : receipt.position ≡ a.at
  pub stands : StandsOnce history seat a.at (entry_before final a.at clock what)

-- The accepted calls of a lane: each stands, they stand in their order, and behind the block no other entry has the number of the seat
pub record LaneStands (commands : List LaneCommand) (final : Standing) (clock seat : ℕ) (replies : List LaneReply) (left history : List Entry) : Type 0 where
  pub calls : (k : ℕ) (a : Answer) (receipt : Receipt) → slice_get replies k ≡ Some (Submitted a) → a.reply ≡ Ok receipt →
      LaneCallStands commands k final clock seat a receipt history
  pub order : (i j : ℕ) (a b : Answer) (first second : Receipt) → i < j → slice_get replies i ≡ Some (Submitted a) → slice_get replies j ≡ Some (Submitted b) →
      a.reply ≡ Ok first → b.reply ≡ Ok second → a.at < b.at
  pub only : made_by seat_of seat left ≡ accepted final replies
