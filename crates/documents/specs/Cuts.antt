-- A text of which a front alone was put.
use Rattle.std.specs.Prelude.{◌≡◌, ℕ, ◌<◌, List, ◌++◌, length, take}

-- what was held before, then a front of this text that is not all of it
abbrev pub IsCut : List ℕ → List ℕ → List ℕ → Type 0
IsCut before after text = (n : ℕ) × (n < length text) × (after ≡ before ++ take n text)
