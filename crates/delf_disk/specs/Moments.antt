-- What a crash at any moment of a run of disk calls may leave.
use Rattle.std.specs.Prelude.{◌⊎◌, ℕ, ◌≤◌}
use Rattle.delf_disk.specs.Areas.{Areas}
use Rattle.delf_disk.specs.Images.{After}

-- Every image since the start, and every image now, is an image of the start after a step.
pub record Runs {D : Type 0} (moment : D → ℕ) (may_leave : D → Areas → Type 0) (left_since : D → ℕ → Areas → Type 0)
    (step : Areas → Areas → Type 0) (old new : D) : Type 0 where
  pub later : moment old ≤ moment new
  pub now : (c : Areas) → may_leave new c → After step (may_leave old) c
  pub each : (c : Areas) → left_since new (moment old) c → After step (may_leave old) c
  -- for a run that began earlier
  pub before : (t : ℕ) (c : Areas) → t ≤ moment old → left_since new t c → left_since old t c ⊎ After step (may_leave old) c

-- Every image since the start, and every image now, has P.
pub record Leaves {D : Type 0} (moment : D → ℕ) (may_leave : D → Areas → Type 0) (left_since : D → ℕ → Areas → Type 0)
    (P : Areas → Type 0) (old new : D) : Type 0 where
  pub later : moment old ≤ moment new
  pub now : (c : Areas) → may_leave new c → P c
  pub each : (c : Areas) → left_since new (moment old) c → P c
  -- for a run that began earlier
  pub before : (t : ℕ) (c : Areas) → t ≤ moment old → left_since new t c → left_since old t c ⊎ P c
