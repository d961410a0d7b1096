-- A block: lanes that run at once over a book, and the steps that are made behind them.
use Rattle.std.specs.Prelude.{◌≡◌, ◌≤◌, ℕ, ◌+◌, ◌⊎◌, false, List, None, Some, length, slice_get}
use Rattle.std.specs.List.{Contains}
use Rattle.delf_model.specs.declared.script.Lane.{Lane}
use Rattle.delf_model.specs.Legal.{Legal}
use Rattle.delf_model.specs.Room.{moment_of}
use Rattle.delf_model.specs.Sound.{FirstIsLegal}
use Rattle.job_table.specs.Table.{top_seat}
use Rattle.seat_lock.specs.Promises.{NoneFrom}
use Rattle.seat_lock.specs.declared.view.Moment.{Moment}
use Rattle.seat_lock.specs.Views.{made_by}
use Rattle.delf_service.specs.declared.replies.LaneOut.{LaneOut}
use Rattle.delf_service.specs.declared.replies.LaneReply.{LaneReply}
use Rattle.delf_service.specs.declared.standing.Standing.{Standing}
use Rattle.delf_service.specs.Follows.{Follows}
use Rattle.delf_service.specs.Lanes.{LaneTold, Ended}
use Rattle.delf_service.specs.Seats.{AreMoments}
use Rattle.delf_service.specs.Rows.{commands_at}
use Rattle.delf_service.specs.Standings.{IsCaused, seat_of, state_at, with_lanes}
use Rattle.delf_service.specs.Works.{first_in, DamagedIn, IsFirstPut}

-- the root's number, and that of the lane at this place
abbrev pub root_of : Standing → ℕ
root_of first = top_seat (state_at first) + 1

abbrev pub lane_seat : Standing → ℕ → ℕ
lane_seat first place = root_of first + 1 + place

-- the first step of the serial order would put back an item that is damaged
abbrev pub IsDamaged : Standing → ℕ → Type 0
IsDamaged s now = (item : ℕ) × (stored : List ℕ) × (read : List ℕ) × IsFirstPut s now item × DamagedIn s s now item stored read

-- a book that is up has no legal step left, or a damaged item is before all others
abbrev pub Rests : Standing → ℕ → Type 0
Rests s now = s.down ≡ false → FirstIsLegal (state_at s) (moment_of (state_at s) now) × ((first_in s now ≡ None) ⊎ IsDamaged s now)

-- steps were made: the history is legal, and no seat has other entries
pub record IsBehind (before after : Standing) : Type 0 where
  pub later : Follows after before
  pub legal : Legal after.key.rules after.history
  pub cause : IsCaused after
  pub only : (n : ℕ) → made_by seat_of n after.history ≡ made_by seat_of n before.history

-- The last standing may come after the first, its history is legal, and of the entries behind the first history each is a
-- step, which has no seat, or has the number of one of so many lanes. It is down only where the count of faults rose since
-- the opening
pub record HasLanes (first final : Standing) (count : ℕ) : Type 0 where
  pub later : Follows final first
  pub legal : Legal final.key.rules final.history
  pub cause : IsCaused final
  pub fresh : NoneFrom seat_of (root_of first) first.history
  pub others : (n : ℕ) → (n ≤ root_of first) ⊎ (lane_seat first count ≤ n) → made_by seat_of n final.history ≡ made_by seat_of n first.history

-- what is told of one lane: its replies are those of the book, and the entries with the number of its seat are those of its
-- accepted calls, each once and in their order
abbrev pub LaneToldAt : Standing → List (Moment Standing) → Standing → ℕ → List Lane → ℕ → List LaneReply → Type 0
LaneToldAt first turns final now lanes place replies =
    LaneTold turns final now (lane_seat first place) (made_by seat_of (lane_seat first place) final.history) (commands_at lanes place) replies

-- One list of replies to each lane. Each was given in one of the turns of a block, in which the book was found and left in
-- these standings: they come after the first, of any two the later one follows the other, and the last follows each
pub record LanesTold (first final : Standing) (now : ℕ) (lanes : List Lane) (outs : List LaneOut) : Type 0 where
  pub turns : List (Moment Standing)
  pub moments : AreMoments turns final
  pub behind : (a : Moment Standing) → Contains turns a → Follows a.state (with_lanes first (length lanes))
  pub count : length outs ≡ length lanes
  pub told : (place : ℕ) (out : LaneOut) → slice_get outs place ≡ Some out → LaneToldAt first turns final now lanes place out.replies

-- there were such replies, also where they are lost
abbrev pub AreToldLanes : Standing → Standing → ℕ → List Lane → Type 0
AreToldLanes first final now lanes = (outs : List LaneOut) × LanesTold first final now lanes outs

-- each lane ended at its end or at a call that wanted memory, and no step is left
pub record IsBlock (first final : Standing) (now : ℕ) (lanes : List Lane) (outs : List LaneOut) : Type 0 where
  pub told : LanesTold first final now lanes outs
  pub end : (place : ℕ) (out : LaneOut) → slice_get outs place ≡ Some out → Ended (commands_at lanes place) out.replies
  pub rests : Rests final now
