use Rattle.std.proofs.Common.{◌<◌, length}
use Rattle.live_graph.specs.ShardGraph.{graph_of}
use Rattle.delf_tests.proofs.scans.chained.Given as goal

abbrev pub invariant-loop-n : goal.invariant-loop-n
invariant-loop-n l = length (graph_of l.graph).edges < l.n
