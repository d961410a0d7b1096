-- Why a call failed.
use Rattle.std.specs.Prelude.{◌≡◌, ℕ, ◌+◌, ◌-◌, ◌^◌, ◌≤◌, min, Result, IsErr, OnOk, OnErr}
use Rattle.delf_disk.specs.declared.area.Failed.{Failed}

-- the count rose, unless it stands at the greatest `u64`
abbrev pub Rose : ℕ → ℕ → Type 0
Rose before now = min (before + 1) (2 ^ 64 - 1) ≤ now

-- the count of faults never falls, stays where the call did its work, and rises where it failed
pub record HasCause {T : Type 0} (before now : ℕ) (result : Result T Failed) : Type 0 where
  pub later : before ≤ now
  pub stays : OnOk result (now ≡ before)
  pub failed : OnErr result (Rose before now)

-- a call counts the fuse down, and fails where it was the one
pub record Burns {T : Type 0} (before now : ℕ) (result : Result T Failed) : Type 0 where
  pub counts : now ≡ before - 1
  pub blows : before ≡ 1 → IsErr result
