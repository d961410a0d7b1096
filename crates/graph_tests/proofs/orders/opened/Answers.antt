use Rattle.std.specs.Prelude.{ℕ, Bool}
use Rattle.std.proofs.Common.{ap}
use Rattle.graph_tests.proofs.orders.opened.Goals as goal

pub new-requires-clause-counts : goal.new-requires-clause-counts
new-requires-clause-counts c = λ edge. ap (λ (f : ℕ → Bool). f edge) c.in_ok-graph.ensures.counts
