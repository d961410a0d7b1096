use Rattle.std.proofs.Common.{map}
use Rattle.delf_model.specs.Checked.{NoRow, IsRepeated}
use Rattle.delf_model.proofs.numbering.first_repeated_object.Given as goal

abbrev pub invariant-loop-row : goal.invariant-loop-row
invariant-loop-row l = NoRow l.row (IsRepeated (map (λ object. object.name) l.objects))
