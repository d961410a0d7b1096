use Rattle.std.proofs.Common.{◌≡◌, ◌<◌, ℕ, None, get_or, length}
use Rattle.schema_checks.specs.Routes.{IsFirstEdge}
use Rattle.schema_checks.proofs.checked.Checked.of.Given as goal

abbrev pub invariant-loop-kind : goal.invariant-loop-kind
invariant-loop-kind l =
    (length l.firsts.items ≡ l.kind)
    × ((k : ℕ) → k < l.kind → IsFirstEdge l.fn.rules k (get_or l.firsts.items k None))
