use Rattle.delf_model.specs.Checked.{NoRow, LacksRoute}
use Rattle.delf_model.proofs.rules.first_unrouted.Given as goal

abbrev pub invariant-loop-kind : goal.invariant-loop-kind
invariant-loop-kind l = NoRow l.kind (LacksRoute l.numbering)
