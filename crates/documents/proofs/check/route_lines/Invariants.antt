use Rattle.documents.specs.Checks.{AreRouteLines, by_any_types}
use Rattle.documents.proofs.check.route_lines.Given as goal

abbrev pub invariant-loop-kind : goal.invariant-loop-kind
invariant-loop-kind l = AreRouteLines l.schema (by_any_types l.schema l.kind) l.text.items
