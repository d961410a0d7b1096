use Rattle.std.proofs.Common.{◌≡◌, []}
use Rattle.live_graph.specs.ShardGraph.{graph_of}
use Rattle.delf_tests.proofs.scans.paged.Given as goal

abbrev pub invariant-loop-n : goal.invariant-loop-n
invariant-loop-n l = (graph_of l.graph).edges ≡ []
