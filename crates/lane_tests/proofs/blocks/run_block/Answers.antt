use Rattle.std.proofs.Common.{subst}
use Rattle.delf_model.specs.RuleSet.{RuleSet}
use Rattle.delf_service.specs.Lanes.{HasCommand}
use Rattle.lane_tests.proofs.blocks.run_block.Goals as goal

pub run_lanes-book-requires-clause-numbers : goal.run_lanes-book-requires-clause-numbers
run_lanes-book-requires-clause-numbers g c κs within = λ k i command at.
    subst (λ (r : RuleSet). HasCommand r command) c.rules.ensures (c.are_numbered.ensures.0 c.if-not-are_numbered.false k i command at)
