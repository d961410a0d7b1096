use Rattle.std.proofs.Common.{◌≡◌, ℕ, ◌<◌, ◌≤◌, false, Some}
use Rattle.std.specs.Prelude.{slice_get}
use Rattle.delf_model.specs.State.{Logged}
use Rattle.job_table.specs.Items.{is_unhandled_of}
use Rattle.job_table.proofs.items.Items.left_below.Given as goal

abbrev pub invariant-items : goal.invariant-items
invariant-items l = record {
  within : l.i ≤ l.initial.from;
  none : (k : ℕ) (x : Logged) → slice_get l.self.list k ≡ Some x → l.i ≤ k → k < l.initial.from → is_unhandled_of l.job x ≡ false;
}

abbrev pub decreases-items : goal.decreases-items
decreases-items l = l.i
