use Rattle.std.proofs.Common.{arith}
use Rattle.std.specs.Str.{bytes_eq}
use Rattle.delf_model.proofs.NumberLemmas.{place_found, place_none}
use Rattle.script_lang.proofs.part.edge_place.Goals as goal

pub returns-then-is_edge : goal.returns-then-is_edge
returns-then-is_edge c =
    place_found (λ edge. bytes_eq edge.name c.args.name.now) c.args.edges.now c.loop-place.place c.index-edges-place.result c.is_edge.result
    (omega arith) c.index-edges-place.is c.loop-place.invariant c.is_edge.ensures c.if-is_edge.true

pub returns : goal.returns
returns c = place_none (λ edge. bytes_eq edge.name c.args.name.now) c.args.edges.now c.loop-place.place (omega arith) c.loop-place.invariant
