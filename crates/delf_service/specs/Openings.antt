-- Inside a block: the rows as they are opened, and what is told when all are joined.
use Rattle.std.specs.Prelude.{◌≡◌, ◌≤◌, ℕ, ◌+◌, Bool, true, List, [], Some, length, slice_get}
use Rattle.delf_model.specs.declared.entry.Entry.{Entry}
use Rattle.delf_model.specs.declared.script.LaneCommand.{LaneCommand}
use Rattle.delf_model.specs.declared.script.Lane.{Lane}
use Rattle.seat_lock.specs.declared.view.View.{View}
use Rattle.seat_lock.specs.Views.{newcomer}
use Rattle.delf_service.specs.declared.replies.LaneOut.{LaneOut}
use Rattle.delf_service.specs.declared.replies.LaneReply.{LaneReply}
use Rattle.delf_service.specs.declared.standing.Standing.{Standing}
use Rattle.delf_service.specs.Blocks.{HasLanes, LanesTold}
use Rattle.delf_service.specs.Lanes.{Ended}
use Rattle.delf_service.specs.Rows.{commands_at}

-- no replies, and room for one to each command
abbrev pub HasRoom : List LaneCommand → List LaneReply → ℕ → Type 0
HasRoom commands replies room = (replies ≡ []) × (length commands ≤ room)

-- the root after so many splits
abbrev pub has_next : View Standing Entry → ℕ → View Standing Entry
has_next v count = record v { next = v.next + count }

-- the seat that was split off at this place
abbrev pub OpenedAt : View Standing Entry → ℕ → View Standing Entry → Type 0
OpenedAt v place w = w ≡ newcomer (v.next + place) v.seen

-- each list is empty, with room for all that the lane at its place is answered
abbrev pub HasRooms : {L : Type 0} → List Lane → (L → List LaneReply) → (L → ℕ) → List L → Type 0
HasRooms {L} lanes items room lists = (k : ℕ) (l : L) → slice_get lists k ≡ Some l → HasRoom (commands_at lanes k) (items l) (room l)

-- the lanes were run, and their seats are joined
pub record RanLanes (first last : Standing) (now : ℕ) (lanes : List Lane) (outs : List LaneOut) (fed : Bool) : Type 0 where
  pub has : HasLanes first last (length lanes)
  pub told : LanesTold first last now lanes outs
  pub end : fed ≡ true → (place : ℕ) (out : LaneOut) → slice_get outs place ≡ Some out → Ended (commands_at lanes place) out.replies
