-- What a call that neither writes nor syncs does to the images.
use Rattle.std.specs.Prelude.{ℕ, ◌≤◌}
use Rattle.delf_disk.specs.Areas.{Areas}

-- All that a crash may have left, now or since an earlier moment, it may still have left. A sync would promise more.
pub record LosesNone {D : Type 0} (moment : D → ℕ) (may_leave : D → Areas → Type 0) (left_since : D → ℕ → Areas → Type 0) (old new : D) : Type 0 where
  pub later : moment old ≤ moment new
  pub now : (c : Areas) → may_leave old c → may_leave new c
  pub before : (t : ℕ) (c : Areas) → t ≤ moment old → left_since old t c → left_since new t c
