use Rattle.std.proofs.Common.{arith}
use Rattle.std.specs.Str.{bytes_eq}
use Rattle.delf_model.proofs.NumberLemmas.{place_found, place_none}
use Rattle.delf_model.proofs.numbering.edge_place.Goals as goal

pub returns-then-same : goal.returns-then-same
returns-then-same c =
    place_found (λ edge. bytes_eq edge.name c.args.name.now) c.args.edges.now c.loop-i.i c.index-edges-i.result c.same.result
    (omega arith) c.index-edges-i.is c.loop-i.invariant c.same.ensures.tested c.if-same.true

pub returns : goal.returns
returns c = place_none (λ edge. bytes_eq edge.name c.args.name.now) c.args.edges.now c.loop-i.i (omega arith) c.loop-i.invariant
