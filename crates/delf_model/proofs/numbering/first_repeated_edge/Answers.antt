use Rattle.std.proofs.Common.{map, arith, below_more}
use Rattle.delf_model.specs.Checked.{IsRepeated}
use Rattle.delf_model.proofs.NumberLemmas.{repeated_from_place, not_repeated}
use Rattle.delf_model.proofs.numbering.first_repeated_edge.Goals as goal

pub returns-then-edge_place-row : goal.returns-then-edge_place-row
returns-then-edge_place-row c =
    (omega arith, repeated_from_place (λ edge. edge.name) c.args.edges.now c.loop-row.row c.index-edges-row.result (omega arith) c.index-edges-row.is c.edge_place.result c.edge_place.ensures (omega arith), c.loop-row.invariant)

pub loop-row-preserved : goal.loop-row-preserved
loop-row-preserved c =
    below_more (λ k. IsRepeated (map (λ edge. edge.name) c.args.edges.now) k → ⊥) c.loop-row.row c.loop-row.invariant
    (not_repeated (λ edge. edge.name) c.args.edges.now c.loop-row.row c.index-edges-row.result (omega arith) c.index-edges-row.is c.edge_place.result c.edge_place.ensures (omega arith))

pub returns : goal.returns
returns c = λ k h. c.loop-row.invariant k (omega arith)
