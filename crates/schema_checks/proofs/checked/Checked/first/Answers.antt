use Rattle.std.proofs.Common.{ℕ, List, None, get_or, arith, subst}
use Rattle.std.proofs.lemmas.List.{get_or_past}
use Rattle.delf_model.specs.Checked.{HasRoute}
use Rattle.schema_checks.specs.Routes.{IsFirstEdge, IsPrintedRoute}
use Rattle.schema_checks.proofs.Printed.{printed_exists}
use Rattle.schema_checks.proofs.checked.Checked.first.Goals as goal

pub returns-then-kind-len-clause-printed : goal.returns-then-kind-len-clause-printed
returns-then-kind-len-clause-printed c =
    subst (λ r. HasRoute r c.args.kind → (route : List ℕ) × IsPrintedRoute r c.args.kind route) c.self.view_is
    (printed_exists c.self.inside.rules (λ k. get_or c.self.inside.firsts.items k None) c.self.invariant.each c.args.kind)

pub returns-else-kind-len-clause-printed : goal.returns-else-kind-len-clause-printed
returns-else-kind-len-clause-printed c =
    subst (λ r. HasRoute r c.args.kind → (route : List ℕ) × IsPrintedRoute r c.args.kind route) c.self.view_is
    (printed_exists c.self.inside.rules (λ k. get_or c.self.inside.firsts.items k None) c.self.invariant.each c.args.kind)

pub returns-else-kind-len-clause-edge : goal.returns-else-kind-len-clause-edge
returns-else-kind-len-clause-edge c =
    subst (λ r. IsFirstEdge r c.args.kind None) c.self.view_is
    (subst (λ d. IsFirstEdge c.self.inside.rules c.args.kind d) (get_or_past c.self.inside.firsts.items c.args.kind None (omega arith)) (c.self.invariant.each c.args.kind))
