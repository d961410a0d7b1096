-- What a seat knows, and what each call makes of it.
use Rattle.std.specs.Prelude.{◌≡◌, ℕ, ◌+◌, ◌-◌, ◌^◌, ◌<◌, ◌≤◌, ◌==◌, Bool, true, false, Option, Some, None, List, [], ◌∷◌, ◌++◌, length, nat_le, if◌then◌else◌}
use Rattle.std.specs.List.{filter, Contains}
use Rattle.seat_lock.specs.declared.view.Moment.{Moment}
use Rattle.seat_lock.specs.declared.view.View.{View}
use Rattle.seat_lock.specs.declared.view.Stage.{Stage}
use Rattle.seat_lock.specs.declared.view.Stage.TheVariants.{Idle, Waiting, Turn}

-- whether this maker is the seat n
abbrev pub is_maker : ℕ → Option ℕ → Bool
is_maker n None = false
is_maker n (Some m) = m == n

-- the entries of the seat n
abbrev pub made_by : {E : Type 0} → (E → Option ℕ) → ℕ → List E → List E
made_by maker n es = filter (λ e. is_maker n (maker e)) es

abbrev pub moment : {S : Type 0} → ℕ → S → Moment S
moment at s = record { at = at; state = s }

-- the later of two moments
abbrev pub later : {S : Type 0} → Moment S → Moment S → Moment S
later a b = if nat_le a.at b.at then b else a

-- its ticket, if it has one
abbrev pub ticket : Stage → Option ℕ
ticket Idle = None
ticket (Waiting t) = Some t
ticket (Turn t) = Some t

module _ {S E : Type 0} where
  abbrev pub staged : View S E → Stage → View S E
  staged v stage = record v { stage = stage }

  -- it has seen this moment too
  abbrev pub sees : View S E → Moment S → View S E
  sees v m = record v { seen = m; remembers = v.remembers ++ m ∷ [] }

  -- it left this moment, with these entries of its own
  abbrev pub leaves : View S E → Moment S → List E → View S E
  leaves v m made = record (sees v m) { made = made }

  -- it had the turn: it found one moment and left another, with these entries of its own
  abbrev pub took_turn : View S E → Moment S → Moment S → List E → View S E
  took_turn v found left made = leaves (sees v found) left made

  -- a new seat, which was given one moment
  abbrev pub newcomer : ℕ → Moment S → View S E
  newcomer number m = record { live = true; number = number; stage = Idle; seen = m; remembers = m ∷ []; made = []; next = 0; joined = [] }

  -- the first seat of a lock
  abbrev pub rooted : ℕ → S → View S E
  rooted first start = record (newcomer first (moment 0 start)) { next = first + 1 }

  -- the root after a split, and the seat that was split off
  abbrev pub split_root : View S E → View S E
  split_root v = record v { next = v.next + 1 }

  abbrev pub split_off : View S E → View S E
  split_off v = newcomer v.next v.seen

  -- the root v after the seat w was joined: it remembers what both remember, and was given what both have seen
  abbrev pub joined_root : View S E → View S E → View S E
  joined_root v w = record v { seen = later v.seen w.seen; remembers = (v.remembers ++ w.remembers) ++ v.seen ∷ w.seen ∷ []; joined = v.joined ++ (w.number, w.made) ∷ [] }

  -- a seat that was joined
  abbrev pub gone : S → View S E
  gone blank = record (newcomer 0 (moment 0 blank)) { live = false }

  -- the seat has the number that it had, and as many seats are out and joined
  abbrev pub IsSameSeat : View S E → View S E → Type 0
  IsSameSeat v w = (w.number ≡ v.number) × (w.next ≡ v.next) × (w.joined ≡ v.joined)

  -- only the root knows a next number
  abbrev pub IsRoot : View S E → Type 0
  IsRoot v = 0 < v.next

  -- it is the root, and its next number is one
  abbrev pub CanSplit : View S E → Type 0
  CanSplit v = IsRoot v × (v.next < 2 ^ 32)

  -- how many seats were split off and not joined
  abbrev pub out_of : View S E → ℕ
  out_of v = v.next - (v.number + 1 + length v.joined)

  -- of any two states that it remembers one follows the other, and what it has seen follows each
  pub record IsOrdered (follows : S → S → Type 0) (v : View S E) : Type 0 where
    pub rising : (a b : Moment S) → Contains v.remembers a → Contains v.remembers b → a.at ≤ b.at → follows b.state a.state
    pub highest : (a : Moment S) → Contains v.remembers a → follows v.seen.state a.state
