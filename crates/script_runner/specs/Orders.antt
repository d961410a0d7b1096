-- The orders that commands give to a disk: the last one, and how many there were.
use Rattle.std.specs.Prelude.{◌≡◌, ℕ, List, [], ◌∷◌}
use Rattle.delf_disk.specs.declared.area.Order.{Order}
use Rattle.delf_disk.specs.declared.area.Order.TheVariants.{CutPower, FailAfter}
use Rattle.delf_disk.specs.Plain.{NextCount}
use Rattle.delf_model.specs.declared.script.Command.{Command}
use Rattle.delf_model.specs.declared.script.Command.TheVariants.{Fail, Crash}

-- `fail` and `crash` give one each, and no other command does
abbrev pub Gives : Command → Order → ℕ → Order → ℕ → Type 0
Gives (Fail n) order count next now = (next ≡ FailAfter n) × NextCount count now
Gives (Crash pick) order count next now = (next ≡ CutPower pick) × NextCount count now
Gives other order count next now = (next ≡ order) × (now ≡ count)

unfoldable pub GivesAll : List Command → Order → ℕ → Order → ℕ → Type 0
GivesAll [] order count next now = (next ≡ order) × (now ≡ count)
GivesAll (command ∷ more) order count next now =
    (between : Order) × ((reached : ℕ) × (Gives command order count between reached × GivesAll more between reached next now))
