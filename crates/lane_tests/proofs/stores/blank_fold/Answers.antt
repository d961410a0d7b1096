use Rattle.std.specs.Prelude.{ℕ, Bool}
use Rattle.std.proofs.Common.{ap}
use Rattle.lane_tests.proofs.stores.blank_fold.Goals as goal

pub fold-requires-clause-counts : goal.fold-requires-clause-counts
fold-requires-clause-counts c = λ edge. ap (λ (f : ℕ → Bool). f edge) c.in_ok-graph.ensures.counts
