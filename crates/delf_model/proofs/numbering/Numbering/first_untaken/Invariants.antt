use Rattle.delf_model.specs.Checked.{NoRow, CondemnsUntaken}
use Rattle.delf_model.proofs.numbering.Numbering.first_untaken.Given as goal

abbrev pub invariant-loop-row : goal.invariant-loop-row
invariant-loop-row l = NoRow l.row (CondemnsUntaken l.self)
