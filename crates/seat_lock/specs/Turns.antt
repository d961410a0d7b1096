-- The rule of the lock: what holds of the words, of the value at home and of what all seats know, between any two steps.
use Rattle.std.specs.Prelude.{◌≡◌, ◌≢◌, ℕ, ◌+◌, ◌%◌, ◌^◌, ◌<◌, ◌≤◌, true, false, Option, Some, List, [], ◌∷◌, length, if◌then◌else◌}
use Rattle.std.specs.List.{Contains}
use mathlib.Core.Option.{some}
use lib.ListN.{get_elem?}
use Rattle.atomic_table.specs.Table.{State}
use Rattle.seat_lock.specs.declared.view.Moment.{Moment}
use Rattle.seat_lock.specs.declared.view.View.{View}
use Rattle.seat_lock.specs.declared.view.Stage.{Stage}
use Rattle.seat_lock.specs.declared.view.Stage.TheVariants.{Idle, Waiting, Turn}
use Rattle.seat_lock.specs.Views.{made_by, ticket}

-- all states that the value had, the last of them, `now`, at the place `clock`; the tickets served and drawn, counted
-- without end; the number of the next seat; and the number and the entries of each seat that was joined
pub record Course (S E : Type 0) : Type 0 where
  pub log : List S
  pub now : S
  pub clock : ℕ
  pub served : ℕ
  pub drawn : ℕ
  pub limit : ℕ
  pub joined : List (ℕ × List E)

-- f of each element, added up
abbrev pub total : {A : Type 0} → (A → ℕ) → List A → ℕ
total f [] = 0
total f (x ∷ xs) = f x + total f xs

abbrev pub ticket_count : Stage → ℕ
ticket_count Idle = 0
ticket_count (Waiting t) = 1
ticket_count (Turn t) = 1

module _ {S E : Type 0} where
  -- how many views have a ticket, and how many are of a seat that is not joined
  abbrev pub tickets : List (View S E) → ℕ
  tickets views = total (λ v. ticket_count v.stage) views

  abbrev pub present : List (View S E) → ℕ
  present views = total (λ v. if v.live then 1 else 0) views

  abbrev pub HasTurn : View S E → Type 0
  HasTurn v = (t : ℕ) × (v.stage ≡ Turn t)

  -- a ticket was drawn and is not passed yet. It has the turn only where it is served, and its seat has then seen the value as it is
  abbrev pub FitsStage : Course S E → Moment S → Stage → Type 0
  FitsStage c seen Idle = Unit {0}
  FitsStage c seen (Waiting t) = (c.served ≤ t) × (t < c.drawn)
  FitsStage c seen (Turn t) = (t ≡ c.served) × (t < c.drawn) × (seen.at ≡ c.clock)

  -- each later state follows each earlier one
  pub record IsCourse (follows : S → S → Type 0) (c : Course S E) : Type 0 where
    pub long : length c.log ≡ c.clock + 1
    pub last : get_elem? c.log c.clock ≡ some c.now
    pub ordered : (i j : ℕ) (a b : S) → i ≤ j → get_elem? c.log i ≡ some a → get_elem? c.log j ≡ some b → follows b a

  module _ (entries : S → List E) (maker : E → Option ℕ) (first : ℕ) where
    -- what a live seat knows is so: the states that it remembers are in the log, none after the one that it has seen, and
    -- its own entries are those that it made. The root knows the next number and the joined seats, and no other seat does
    pub record Fits (c : Course S E) (index : ℕ) (v : View S E) : Type 0 where
      pub numbered : v.number ≡ first + index
      pub seen : get_elem? c.log v.seen.at ≡ some v.seen.state
      pub remembers : (m : Moment S) → Contains v.remembers m → (get_elem? c.log m.at ≡ some m.state) × (m.at ≤ v.seen.at)
      pub own : made_by maker v.number (entries c.now) ≡ v.made
      pub root : index ≡ 0 → (v.next ≡ c.limit) × (v.joined ≡ c.joined)
      pub others : 0 < index → v.next ≡ 0
      pub unjoined : (p : ℕ × List E) → Contains c.joined p → p.0 ≢ v.number

    -- the entries of each joined seat, of each number below the first, and of each number not yet given
    pub record FitsNumbers (start : S) (c : Course S E) : Type 0 where
      pub joined : (p : ℕ × List E) → Contains c.joined p → (p.0 < c.limit) × (made_by maker p.0 (entries c.now) ≡ p.1)
      pub elder : (n : ℕ) → n < first → made_by maker n (entries c.now) ≡ made_by maker n (entries start)
      pub unborn : (n : ℕ) → c.limit ≤ n → made_by maker n (entries c.now) ≡ []

module _ {T S E : Type 0} (state : T → S) (entries : S → List E) (maker : E → Option ℕ) (follows : S → S → Type 0) (first : ℕ) (start : S) where
  -- while no seat has the turn, the value is at home in the state `now`. A seat is known by its place among the views. The
  -- bells are the words on which seats sleep: they tell nothing, and may have any value
  pub record Kept (s : State (Option T) (View S E)) : Type 0 where
    pub course : Course S E
    pub bells : List ℕ
    pub words : s.words ≡ length (entries course.now) ∷ (course.drawn % 2 ^ 64) ∷ (course.served % 2 ^ 64) ∷ bells
    pub deep : length s.homes ≡ 1
    pub queued : course.drawn ≡ course.served + tickets s.views
    pub given : course.limit ≡ first + length s.views
    pub few : course.limit ≤ 2 ^ 32
    pub rooted : (v : View S E) × (get_elem? s.views 0 ≡ some v) × (v.live ≡ true)
    pub out : present s.views + length course.joined ≡ length s.views
    pub past : IsCourse follows course
    pub stages : (i : ℕ) (v : View S E) → get_elem? s.views i ≡ some v → FitsStage course v.seen v.stage
    pub seats : (i : ℕ) (v : View S E) → get_elem? s.views i ≡ some v → v.live ≡ true → Fits entries maker first course i v
    pub idle : (i : ℕ) (v : View S E) → get_elem? s.views i ≡ some v → v.live ≡ false → v.stage ≡ Idle
    pub apart : (i j t : ℕ) (v w : View S E) → get_elem? s.views i ≡ some v → get_elem? s.views j ≡ some w → ticket v.stage ≡ Some t → ticket w.stage ≡ Some t → i ≡ j
    pub home : ((i : ℕ) (v : View S E) → get_elem? s.views i ≡ some v → ¬ HasTurn v) → (x : T) × (get_elem? s.homes 0 ≡ some (some (Some x))) × (state x ≡ course.now)
    pub numbers : FitsNumbers entries maker first start course
