-- What the root has seen at the start, and what comes out at the end.
use Rattle.std.specs.Prelude.{◌≡◌, ℕ, ◌+◌, ◌*◌, ◌<◌, ◌≤◌, ◌++◌, List, Some, length, map, slice_get}
use Rattle.std.specs.List.{Contains}
use Rattle.delf_model.specs.declared.entry.Entry.{Entry}
use Rattle.delf_model.specs.Legal.{Legal}
use Rattle.job_table.specs.Table.{top_seat}
use Rattle.seat_lock.specs.declared.view.Moment.{Moment}
use Rattle.seat_lock.specs.declared.view.View.{View}
use Rattle.seat_lock.specs.Promises.{NoneFrom}
use Rattle.seat_lock.specs.Views.{made_by, rooted, IsOrdered}
use Rattle.delf_service.specs.declared.standing.Standing.{Standing}
use Rattle.delf_service.specs.Follows.{Follows}
use Rattle.delf_service.specs.Standings.{IsCaused, seat_of, state_at}
use Rattle.delf_service.specs.Turns.{Keeps}

-- The root has the first number above each seat of the history, and has seen the book. So no entry has its number or a
-- greater one, and it has at most 64 for each entry, and one
pub record Starts (start : Standing) (root : View Standing Entry) : Type 0 where
  pub root_is : root ≡ rooted (top_seat (state_at start) + 1) start
  pub legal : Legal start.key.rules start.history
  pub fresh : NoneFrom seat_of (top_seat (state_at start) + 1) start.history
  pub low : top_seat (state_at start) ≤ 64 * length start.history

-- a seat with the entries that it made
abbrev pub pair_of : View Standing Entry → ℕ × List Entry
pair_of v = (v.number, v.made)

-- The root was `old`, and these seats were joined into it: it has seen what follows all that they have seen, keeps what each
-- of them made, and remembers what each remembers, of any two states the one behind the other
pub record JoinedTo (old root : View Standing Entry) (joined : List (View Standing Entry)) : Type 0 where
  pub number : root.number ≡ old.number
  pub next : root.next ≡ old.next
  pub made : root.made ≡ old.made
  pub joined_is : root.joined ≡ old.joined ++ map pair_of joined
  pub first : Follows root.seen.state old.seen.state
  pub later : (k : ℕ) (w : View Standing Entry) → slice_get joined k ≡ Some w → Follows root.seen.state w.seen.state
  pub keeps : Keeps old root
  pub takes : (k : ℕ) (w : View Standing Entry) → slice_get joined k ≡ Some w → Keeps w root
  pub ordered : 0 < length joined → IsOrdered Follows root

-- the standings of these moments: of any two the later one follows the other, and the end follows each
pub record AreMoments (moments : List (Moment Standing)) (end : Standing) : Type 0 where
  pub rising : (a b : Moment Standing) → Contains moments a → Contains moments b → a.at ≤ b.at → Follows b.state a.state
  pub last : (a : Moment Standing) → Contains moments a → Follows end a.state

-- A service that began with `start` was closed by its root and these seats: the book follows all that they have seen, of
-- their numbers and of each that was joined before it has just the entries that they made, of a lower number those that it
-- had at the start, and none of a number that no seat had. Of any two states that the seats found or left in their turns one
-- follows the other
pub record Closed (start : Standing) (root : View Standing Entry) (seats : List (View Standing Entry)) (end : Standing) : Type 0 where
  pub legal : Legal end.key.rules end.history
  pub first : Follows end root.seen.state
  pub later : (k : ℕ) (w : View Standing Entry) → slice_get seats k ≡ Some w → Follows end w.seen.state
  pub own : made_by seat_of root.number end.history ≡ root.made
  pub made : (k : ℕ) (w : View Standing Entry) → slice_get seats k ≡ Some w → made_by seat_of w.number end.history ≡ w.made
  pub joined : (p : ℕ × List Entry) → Contains root.joined p → made_by seat_of p.0 end.history ≡ p.1
  pub elder : (n : ℕ) → n < root.number → made_by seat_of n end.history ≡ made_by seat_of n start.history
  pub unborn : NoneFrom seat_of root.next end.history
  pub cause : IsCaused end
  pub moments : List (Moment Standing)
  pub root_kept : (m : Moment Standing) → Contains root.remembers m → Contains moments m
  pub kept : (k : ℕ) (w : View Standing Entry) → slice_get seats k ≡ Some w → (m : Moment Standing) → Contains w.remembers m → Contains moments m
  pub ordered : 0 < length seats → AreMoments moments end
