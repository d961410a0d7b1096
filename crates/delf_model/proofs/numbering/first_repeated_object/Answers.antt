use Rattle.std.proofs.Common.{map, arith, below_more}
use Rattle.delf_model.specs.Checked.{IsRepeated}
use Rattle.delf_model.proofs.NumberLemmas.{repeated_from_place, not_repeated}
use Rattle.delf_model.proofs.numbering.first_repeated_object.Goals as goal

pub returns-then-number-row : goal.returns-then-number-row
returns-then-number-row c =
    (omega arith, repeated_from_place (λ object. object.name) c.args.objects.now c.loop-row.row c.index-objects-row.result (omega arith) c.index-objects-row.is c.number.result c.number.ensures (omega arith), c.loop-row.invariant)

pub loop-row-preserved : goal.loop-row-preserved
loop-row-preserved c =
    below_more (λ k. IsRepeated (map (λ object. object.name) c.args.objects.now) k → ⊥) c.loop-row.row c.loop-row.invariant
    (not_repeated (λ object. object.name) c.args.objects.now c.loop-row.row c.index-objects-row.result (omega arith) c.index-objects-row.is c.number.result c.number.ensures (omega arith))

pub returns : goal.returns
returns c = λ k h. c.loop-row.invariant k (omega arith)
