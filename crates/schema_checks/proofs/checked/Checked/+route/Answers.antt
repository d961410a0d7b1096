use Rattle.std.proofs.Common.{◌≡◌, ◌-◌, ◌∙◌, ℕ, true, List, [], ◌∷◌, Some, sym, ap, subst, refl, inl, inr}
use Rattle.std.specs.Prelude.{slice_get}
use Rattle.std.proofs.lemmas.Bool.{false≢true}
use Rattle.delf_model.specs.RuleSet.{RuleSet, is_deep, is_deep_rule, is_deep_shape}
use Rattle.delf_model.specs.Checked.{source_of, shape_from}
use Rattle.schema_checks.specs.Routes.{IsPrintedRoute}
use Rattle.schema_checks.proofs.Printed.{printed_begins, printed_rest, printed_end, slice_get_later}
use Rattle.schema_checks.proofs.checked.Checked.+route.Goals as goal

pub returns-then-i-eq0-clause-exact : goal.returns-then-i-eq0-clause-exact
returns-then-i-eq0-clause-exact t c = λ route printed.
    let begun : (rest : List ℕ) × (route ≡ c.in_ok-edge.edge ∷ rest) = printed_begins c.args.self.now c.args.kind c.in_ok-edge.edge c.in_ok-edge.ensures.edge.0 c.in_ok-edge.ensures.edge.1 route printed in
    sym (ap (λ r. slice_get r c.args.i) begun.1 ∙ ap (λ k. slice_get (c.in_ok-edge.edge ∷ begun.0) k) c.if-i-eq0.true)

pub returns-in-Deep-clause-exact : goal.returns-in-Deep-clause-exact
returns-in-Deep-clause-exact t c = λ route printed.
    let edge : ℕ = c.in_ok-edge.edge in
    let begun : (rest : List ℕ) × (route ≡ edge ∷ rest) = printed_begins c.args.self.now c.args.kind edge c.in_ok-edge.ensures.edge.0 c.in_ok-edge.ensures.edge.1 route printed in
    let shape : slice_get c.args.self.now.edges edge ≡ Some c.in_ok-shape.shape = subst (λ (r : RuleSet). slice_get r.edges edge ≡ Some c.in_ok-shape.shape) c.self.view_is (sym c.in_ok-shape.ensures) in
    let deep : is_deep c.args.self.now edge ≡ true = ap is_deep_shape shape ∙ ap is_deep_rule c.in-Deep.is in
    let source : source_of c.args.self.now edge ≡ c.in_ok-shape.shape.from = ap shape_from shape in
    let whole : IsPrintedRoute c.args.self.now c.args.kind (edge ∷ begun.0) = subst (λ r. IsPrintedRoute c.args.self.now c.args.kind r) begun.1 printed in
    let rest : IsPrintedRoute c.args.self.now c.in_ok-shape.shape.from begun.0 = subst (λ k. IsPrintedRoute c.args.self.now k begun.0) source (printed_rest c.args.self.now c.args.kind edge begun.0 deep whole) in
    c.route.ensures.exact begun.0 rest ∙ sym (ap (λ r. slice_get r c.args.i) begun.1 ∙ slice_get_later edge begun.0 c.args.i c.if-i-eq0.false)

pub returns-in-Shallow : goal.returns-in-Shallow
returns-in-Shallow t c = record {
  printed = c.in_ok-edge.ensures.printed;
  exact = λ route printed.
      let edge : ℕ = c.in_ok-edge.edge in
      let begun : (rest : List ℕ) × (route ≡ edge ∷ rest) = printed_begins c.args.self.now c.args.kind edge c.in_ok-edge.ensures.edge.0 c.in_ok-edge.ensures.edge.1 route printed in
      let shape : slice_get c.args.self.now.edges edge ≡ Some c.in_ok-shape.shape = subst (λ (r : RuleSet). slice_get r.edges edge ≡ Some c.in_ok-shape.shape) c.self.view_is (sym c.in_ok-shape.ensures) in
      let not_deep : is_deep c.args.self.now edge ≡ true → ⊥ = λ deep. elim c.in-Shallow.is [
        | inl shallow ↦ false≢true (sym (ap is_deep_shape shape ∙ ap is_deep_rule shallow) ∙ deep)
        | inr refcount ↦ false≢true (sym (ap is_deep_shape shape ∙ ap is_deep_rule refcount) ∙ deep)
      ] in
      let whole : IsPrintedRoute c.args.self.now c.args.kind (edge ∷ begun.0) = subst (λ r. IsPrintedRoute c.args.self.now c.args.kind r) begun.1 printed in
      let empty : begun.0 ≡ [] = printed_end c.args.self.now c.args.kind edge begun.0 not_deep whole in
      sym (ap (λ r. slice_get r c.args.i) begun.1 ∙ (slice_get_later edge begun.0 c.args.i c.if-i-eq0.false ∙ ap (λ r. slice_get r (c.args.i - 1)) empty));
  none = λ _. refl;
}
