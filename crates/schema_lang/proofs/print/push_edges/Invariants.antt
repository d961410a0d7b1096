use Rattle.std.proofs.Common.{◌≡◌, ◌++◌, map, take}
use Rattle.std.specs.List.{flat_map}
use Rattle.schema_lang.specs.Spelling.{printed_line, edge_words}
use Rattle.schema_lang.proofs.print.push_edges.Given as goal

abbrev pub invariant-loop-edge : goal.invariant-loop-edge
invariant-loop-edge l = l.out.items ≡ l.fn.out.items ++ flat_map printed_line (map edge_words (take l.edge-index l.edges))
