-- Where the records of a log stand.
use Rattle.std.specs.Prelude.{◌≡◌, ℕ, zero, suc, ◌+◌, List, [], ◌∷◌, map, slice_index_or}
use Rattle.gate_log.specs.declared.scan.Place.{Place}

-- where records of these sizes end, if they begin at `at`
abbrev pub end_from : ℕ → List (ℕ × ℕ) → ℕ
end_from at [] = at
end_from at (size ∷ sizes) = end_from (at + 7 + size.0 + size.1) sizes

-- where their gates stand
abbrev pub gates_from : ℕ → List (ℕ × ℕ) → List ℕ
gates_from at [] = []
gates_from at (size ∷ sizes) = at ∷ gates_from (at + 7 + size.0 + size.1) sizes

-- where the gate of record i stands
abbrev pub gate_from : ℕ → List (ℕ × ℕ) → ℕ → ℕ
gate_from at [] i = at
gate_from at (size ∷ sizes) zero = at
gate_from at (size ∷ sizes) (suc i) = gate_from (at + 7 + size.0 + size.1) sizes i

-- the lengths of its head and of its payload
abbrev pub size_in : List (ℕ × ℕ) → ℕ → ℕ × ℕ
size_in sizes i = slice_index_or sizes i (0, 0)

abbrev pub size_at : Place → ℕ × ℕ
size_at place = (place.head, place.payload)

abbrev pub gate_at : Place → ℕ
gate_at place = place.gate

abbrev pub sizes_at : List Place → List (ℕ × ℕ)
sizes_at places = map size_at places

abbrev pub gates_at : List Place → List ℕ
gates_at places = map gate_at places

-- the places are those of records of these sizes from byte 8 on, which end here
pub record AreTied (places : List Place) (end : ℕ) : Type 0 where
  pub end_is : end ≡ end_from 8 (sizes_at places)
  pub gates : gates_at places ≡ gates_from 8 (sizes_at places)
