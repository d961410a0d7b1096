-- When an erased row may be put back.
use Rattle.std.specs.Prelude.{◌≡◌, ℕ, ◌<◌, Bool, None, length, IsTrue}
use Rattle.delf_model.specs.declared.rows.EdgeKey.{EdgeKey}
use Rattle.delf_model.specs.declared.rows.Item.{Item}
use Rattle.delf_model.specs.declared.rows.Item.TheVariants as item
use Rattle.delf_model.specs.Graph.{Graph}
use Rattle.delf_model.specs.State.{State}
use Rattle.delf_model.specs.Puts.{judged}

-- in a state with this graph the item is judged to be put back
abbrev pub IsPutBack : Graph → Item → Type 0
IsPutBack g it = (s : State) × (g ≡ s.graph) × (judged s it ≡ None)

-- room was made for its row
abbrev pub IsReady : (ℕ → Bool) → (EdgeKey → Bool) → Item → Type 0
IsReady objects edges (item.Object job row) = IsTrue (objects row.id)
IsReady objects edges (item.Edge job row from_birth to_birth) = IsTrue (edges row.key)

-- one edge more can be counted
abbrev pub HasPlace : Graph → Item → Type 0
HasPlace g (item.Object job row) = Unit {0}
HasPlace g (item.Edge job row from_birth to_birth) = length g.edges < 4294967295
