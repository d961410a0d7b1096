use Rattle.std.proofs.Common.{◌≡◌, ◌<◌, ◌≤◌, ◌-◌, ℕ, true, false}
use Rattle.std.specs.Prelude.{slice_get}
use Rattle.delf_book.specs.Books.{state_in}
use Rattle.script_runner.specs.Ages.{is_earlier}
use Rattle.script_runner.proofs.readings.place_of.Given as goal

abbrev pub invariant-halves : goal.invariant-halves
invariant-halves g l = record {
  before : (k : ℕ) → k < l.low → is_earlier l.job (slice_get (state_in l.book).jobs k) ≡ true;
  behind : (k : ℕ) → l.high ≤ k → is_earlier l.job (slice_get (state_in l.book).jobs k) ≡ false;
}

abbrev pub decreases-halves : goal.decreases-halves
decreases-halves g l = l.high - l.low
