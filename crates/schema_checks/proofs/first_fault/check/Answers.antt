use Rattle.std.proofs.Common.{subst}
use Rattle.delf_model.specs.Broken.{IsJudgeFault, IsFirstBroken}
use Rattle.delf_model.proofs.CheckedLemmas.{IsFirstBroken-refutes}
use Rattle.schema_checks.proofs.first_fault.check.Goals as goal

pub returns-in-Err-Breaks-clause-passes : goal.returns-in-Err-Breaks-clause-passes
returns-in-Err-Breaks-clause-passes c = λ checked.
    let first : IsFirstBroken c.args.schema.now c.in-Err-Breaks.broken = subst (λ fault. IsJudgeFault c.args.schema.now fault) c.in-Err-Breaks.field-0-is c.in-Err-Breaks.ensures.fault in
    absurd (IsFirstBroken-refutes c.args.schema.now c.in-Err-Breaks.broken first checked)
