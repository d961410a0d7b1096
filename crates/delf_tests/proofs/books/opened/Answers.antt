use Rattle.std.specs.Prelude.{ℕ, Bool}
use Rattle.std.proofs.Common.{ap}
use Rattle.delf_tests.proofs.books.opened.Goals as goal

pub open_book-requires-clause-counts : goal.open_book-requires-clause-counts
open_book-requires-clause-counts g c = λ edge. ap (λ (f : ℕ → Bool). f edge) c.in_ok-graph.ensures.counts
