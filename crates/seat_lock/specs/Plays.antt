-- What each step tells the seat that makes it.
use Rattle.std.specs.Prelude.{◌≡◌, ◌≢◌, ℕ, ◌+◌, ◌%◌, ◌^◌, ◌<◌, ◌≤◌, Option, Some, List, [], ◌∷◌, length}
use Rattle.atomic_table.specs.Table.{Me, Step}
use Rattle.seat_lock.specs.declared.view.View.{View}
use Rattle.seat_lock.specs.declared.view.Stage.TheVariants.{Idle, Waiting, Turn}
use Rattle.seat_lock.specs.Promises.{IsNext}
use Rattle.seat_lock.specs.Views.{made_by, moment, staged, sees, leaves, IsOrdered}

module _ {T S E : Type 0} where
  -- it has drawn a ticket
  abbrev pub drew : Step (Option T) → Me (Option T) (View S E) → ℕ → Me (Option T) (View S E) → Type 0
  drew s m r m' = (t : ℕ) × (r ≡ t % 2 ^ 64) × (m' ≡ (staged m.0 (Waiting t), m.1))

  -- it has passed the turn, and its slot is at home
  abbrev pub passed : Step (Option T) → Me (Option T) (View S E) → ℕ → Me (Option T) (View S E) → Type 0
  passed s m r m' = m' ≡ (staged m.0 Idle, [])

  -- it has rung a bell, which changes nothing that it knows
  abbrev pub rang : Step (Option T) → Me (Option T) (View S E) → ℕ → Me (Option T) (View S E) → Type 0
  rang s m r m' = m' ≡ m

  -- it has learned what the rule says of its view
  abbrev pub learned : (S → S → Type 0) → Step (Option T) → Me (Option T) (View S E) → ℕ → Me (Option T) (View S E) → Type 0
  learned follows s m r m' = (m' ≡ m) × IsOrdered follows m.0 × (0 < m.0.next → m.0.number + 1 + length m.0.joined ≤ m.0.next)

module _ {T S E : Type 0} (state : T → S) (entries : S → List E) (maker : E → Option ℕ) (follows : S → S → Type 0) where
  -- where its ticket is served it has the turn and the value, and has seen the value's state; else nothing has changed
  pub record Looked (t : ℕ) (m : Me (Option T) (View S E)) (r : ℕ) (m' : Me (Option T) (View S E)) : Type 0 where
    pub hit : r ≡ t % 2 ^ 64 → (x : T) × (at : ℕ) × IsNext state entries maker follows m.0 x × (m' ≡ (sees (staged m.0 (Turn t)) (moment at (state x)), (0, Some x) ∷ m.1))
    pub miss : r ≢ t % 2 ^ 64 → m' ≡ m

  abbrev pub looked : Step (Option T) → Me (Option T) (View S E) → ℕ → Me (Option T) (View S E) → Type 0
  looked s m r m' = (t : ℕ) → m.0.stage ≡ Waiting t → Looked t m r m'

  -- it has left the state of the value in its hand
  pub record Raised (m : Me (Option T) (View S E)) (x : T) (m' : Me (Option T) (View S E)) : Type 0 where
    pub left : (at : ℕ) × (m' ≡ (leaves m.0 (moment at (state x)) (made_by maker m.0.number (entries (state x))), m.1))
    pub ordered : IsOrdered follows m'.0

  abbrev pub raised : Step (Option T) → Me (Option T) (View S E) → ℕ → Me (Option T) (View S E) → Type 0
  raised s m r m' = (x : T) → m.1 ≡ (0, Some x) ∷ [] → Raised m x m'
