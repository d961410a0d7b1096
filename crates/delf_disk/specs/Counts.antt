-- Which calls of a disk in memory fail.
use Rattle.std.specs.Prelude.{◌≡◌, ◌⊎◌, ℕ, ◌+◌, ◌-◌, ◌^◌, min, List, Contains}

-- one more, up to the greatest `u64`
abbrev pub next : ℕ → ℕ
next n = min (n + 1) (2 ^ 64 - 1)

-- after so many calls, the next one is set to fail: by its number, or by the last order
abbrev pub IsSetToFail : List ℕ → ℕ → ℕ → Type 0
IsSetToFail fails calls fuse = Contains fails (next calls) ⊎ (fuse ≡ 1)
