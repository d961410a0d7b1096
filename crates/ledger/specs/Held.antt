-- The steps that a ledger holds.
use Rattle.std.specs.Prelude.{◌≡◌, ℕ, ◌≤◌, true, false, List, [], ◌∷◌}
use Rattle.delf_model.specs.declared.entry.What.{What}
use Rattle.delf_model.specs.State.{State}
use Rattle.delf_model.specs.Order.{is_legal_step, is_held}
use Rattle.delf_model.specs.Room.{greatest_moment}
use Rattle.held_laws.specs.Held.{takes_row}

-- a cut or an erasure that is legal at each moment that may come
pub record MayBeHeld (s : State) (what : What) : Type 0 where
  pub takes : takes_row what ≡ true
  pub legal : (moment : ℕ) → s.moment ≤ moment → moment ≤ greatest_moment → is_legal_step s moment what ≡ true

-- each held step is such, and no two take one row
abbrev pub AreHeld : State → List What → Type 0
AreHeld s [] = Unit {0}
AreHeld s (what ∷ others) = MayBeHeld s what × (is_held others what ≡ false) × AreHeld s others

-- a step that is legal at some moment
abbrev pub IsOnceLegal : State → What → Type 0
IsOnceLegal s what = (moment : ℕ) × (is_legal_step s moment what ≡ true)
