use Rattle.std.proofs.Common.{None, arith, subst}
use Rattle.delf_model.specs.Checked.{IsDistance}
use Rattle.delf_model.proofs.RouteLemmas.{IsDistance_past}
use Rattle.delf_model.proofs.rules.Rules.distance.Goals as goal

pub returns-else-kind-len : goal.returns-else-kind-len
returns-else-kind-len c =
    subst (λ rules. IsDistance rules c.args.kind None) c.self.view_is
    (IsDistance_past c.self.inside.numbering c.self.inside.distances.items c.args.kind c.self.invariant.exact (omega arith))
