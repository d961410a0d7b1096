-- What the calls of a lock promise of the value, and ask of those who change it.
use Rattle.std.specs.Prelude.{◌≡◌, ◌≢◌, ℕ, ◌<◌, ◌≤◌, Option, List, []}
use Rattle.std.specs.List.{Contains}
use Rattle.seat_lock.specs.declared.view.View.{View}
use Rattle.seat_lock.specs.Views.{made_by}

-- no entry has a number of `first` or more
abbrev pub NoneFrom : {E : Type 0} → (E → Option ℕ) → ℕ → List E → Type 0
NoneFrom maker first es = (n : ℕ) → first ≤ n → made_by maker n es ≡ []

-- of all numbers, only n may have other entries
abbrev pub OnlyMade : {E : Type 0} → (E → Option ℕ) → ℕ → List E → List E → Type 0
OnlyMade maker n before after = (k : ℕ) → k ≢ n → made_by maker k after ≡ made_by maker k before

module _ {T S E : Type 0} (state : T → S) (entries : S → List E) (maker : E → Option ℕ) (follows : S → S → Type 0) where
  -- the value that a seat may find: its state follows the one that the seat has seen, and of the seat's number it has just the entries that the seat made
  pub record IsNext (v : View S E) (x : T) : Type 0 where
    pub later : follows (state x) v.seen.state
    pub own : made_by maker v.number (entries (state x)) ≡ v.made

  -- what the seat n may leave of a value: a state that follows the one it found, in which only n may have new entries
  pub record Grows (n : ℕ) (before after : T) : Type 0 where
    pub later : follows (state after) (state before)
    pub only : OnlyMade maker n (entries (state before)) (entries (state after))

  -- the value at the end: its state follows the one that the root has seen, and has just the entries that the root and each
  -- joined seat made, those of a number below the root's that it had at the start, and none of a number that no seat had
  pub record Closes (start : S) (v : View S E) (x : T) : Type 0 where
    pub later : follows (state x) v.seen.state
    pub own : made_by maker v.number (entries (state x)) ≡ v.made
    pub joined : (p : ℕ × List E) → Contains v.joined p → made_by maker p.0 (entries (state x)) ≡ p.1
    pub elder : (n : ℕ) → n < v.number → made_by maker n (entries (state x)) ≡ made_by maker n (entries start)
    pub unborn : NoneFrom maker v.next (entries (state x))
