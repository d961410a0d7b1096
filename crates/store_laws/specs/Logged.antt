-- An area as a log, told by functions of its bytes alone.
use Rattle.std.specs.Prelude.{◌≡◌, ℕ, ◌+◌, ◌^◌, Bool, false, cond, not, ◌&&◌, nat_eq, nat_lt, nat_le, List, [], ◌∷◌, ◌++◌, length, take, drop, IsTrue}
use Rattle.std.specs.List.{list_all}
use Rattle.gate_log.specs.Records.{Record, spelled}
use Rattle.gate_log.specs.Logs.{records}

-- the records of an area; one of at most nine bytes holds none, whatever its bytes
abbrev pub held : List ℕ → List Record
held bytes = cond (nat_le (length bytes) 9) [] (records bytes)

-- what stands behind the mark and the records
abbrev pub behind : List ℕ → List ℕ
behind bytes = drop (8 + length (spelled (held bytes))) bytes

-- it begins with a closed gate
abbrev pub is_shut : List ℕ → Bool
is_shut [] = false
is_shut (gate ∷ tail) = not (nat_eq gate 165)

-- both lengths of a record fit their fields
abbrev pub fits_lengths : Record → Bool
fits_lengths r = nat_lt (length r.head) (2 ^ 16) && nat_lt (2 + length r.head + length r.payload) (2 ^ 32)

-- the area is the mark, its records, a closed gate and a tail
pub record IsLog (mark bytes : List ℕ) : Type 0 where
  pub eight : length mark ≡ 8
  pub bounded : IsTrue (list_all fits_lengths (held bytes))
  pub front : take (8 + length (spelled (held bytes))) bytes ≡ mark ++ spelled (held bytes)
  pub shut : IsTrue (is_shut (behind bytes))

-- an area that was never written whole, or a log
abbrev pub is_blank : List ℕ → Bool
is_blank bytes = nat_le (length bytes) 9

abbrev pub IsArea : List ℕ → List ℕ → Type 0
IsArea mark bytes = is_blank bytes ≡ false → IsLog mark bytes

-- zeros behind the closed gate
abbrev pub are_zeros : List ℕ → Bool
are_zeros bytes = list_all (λ byte. nat_eq byte 0) bytes
