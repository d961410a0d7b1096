use Rattle.delf_model.specs.Checked.{NoRow, LacksEnd}
use Rattle.delf_model.proofs.numbering.Numbering.first_undeclared.Given as goal

abbrev pub invariant-loop-row : goal.invariant-loop-row
invariant-loop-row l = NoRow l.row (LacksEnd l.self)
