-- What a script makes of the world that it begins with.
use Rattle.std.specs.Prelude.{◌≡◌, ℕ, false, List, None, take}
use Rattle.std.specs.List.{All}
use Rattle.delf_model.specs.declared.script.Command.{Command}
use Rattle.delf_model.specs.RuleSet.{RuleSet}
use Rattle.delf_model.specs.Legal.{Legal}
use Rattle.delf_model.specs.Sound.{Sound}
use Rattle.documents.specs.Names.{IsNumberedCommand, HasNoLanes}
use Rattle.seat_lock.specs.Lists.{StartsWith}
use Rattle.script_runner.specs.Worlds.{World}

-- a world as an opening finds one: its history is legal, it is up, and nothing is beside it
pub record IsFirst (w : World) : Type 0 where
  pub legal : Legal w.rules w.history
  pub up : w.down ≡ false
  pub alone : w.beside ≡ None

-- the numbers of types in these commands are those of types that the rules have
abbrev pub AreNumbered : RuleSet → List Command → Type 0
AreNumbered rules commands = All (IsNumberedCommand rules) commands

-- no block of lanes is among them
abbrev pub AreSerial : List Command → Type 0
AreSerial commands = All HasNoLanes commands

-- the history of one world begins that of another, which has the same rules
pub record GoesOn (first last : World) : Type 0 where
  pub rules : last.rules ≡ first.rules
  pub history : StartsWith last.history first.history

-- the history up to each length is legal, and what every legal history is
pub record IsSoundThroughout (w : World) : Type 0 where
  pub legal : (p : ℕ) → Legal w.rules (take p w.history)
  pub sound : (p : ℕ) → Sound w.rules (take p w.history)
