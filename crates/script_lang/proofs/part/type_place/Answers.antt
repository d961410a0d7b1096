use Rattle.std.proofs.Common.{arith}
use Rattle.std.specs.Str.{bytes_eq}
use Rattle.delf_model.proofs.NumberLemmas.{place_found, place_none}
use Rattle.script_lang.proofs.part.type_place.Goals as goal

pub returns-then-is_type : goal.returns-then-is_type
returns-then-is_type c =
    place_found (λ object. bytes_eq object.name c.args.name.now) c.args.types.now c.loop-place.place c.index-types-place.result c.is_type.result
    (omega arith) c.index-types-place.is c.loop-place.invariant c.is_type.ensures c.if-is_type.true

pub returns : goal.returns
returns c = place_none (λ object. bytes_eq object.name c.args.name.now) c.args.types.now c.loop-place.place (omega arith) c.loop-place.invariant
