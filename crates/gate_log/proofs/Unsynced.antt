-- A run of calls that lose no image.
use Rattle.std.proofs.Common.{ℕ, arith}
use Rattle.delf_disk.specs.Areas.{Areas}
use Rattle.gate_log.specs.Unsynced.{LosesNone}

module _ {D : Type 0} {moment : D → ℕ} {may_leave : D → Areas → Type 0} {left_since : D → ℕ → Areas → Type 0} where
  pub none_on : {old mid new : D} → LosesNone moment may_leave left_since old mid → LosesNone moment may_leave left_since mid new → LosesNone moment may_leave left_since old new
  none_on one two = record {
    later = omega (arith, one.later, two.later);
    now = λ c image. two.now c (one.now c image);
    before = λ t c le left. two.before t c (omega (arith, le, one.later)) (one.before t c le left);
  }
