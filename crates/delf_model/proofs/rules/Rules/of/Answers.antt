use Rattle.std.proofs.Common.{subst}
use Rattle.delf_model.specs.Broken.{IsJudgeFault}
use Rattle.delf_model.proofs.CheckedLemmas.{IsFirstBroken-refutes}
use Rattle.delf_model.proofs.rules.Rules.of.Goals as goal

pub returns-in-Err-Breaks-clause-unchecked : goal.returns-in-Err-Breaks-clause-unchecked
returns-in-Err-Breaks-clause-unchecked c =
    λ _ checked. IsFirstBroken-refutes c.args.schema.now c.in-Err-Breaks.field-0-0
    (subst (λ fault. IsJudgeFault c.args.schema.now fault) c.in-Err-Breaks.field-0-is c.in-Err-Breaks.ensures.fault) checked
