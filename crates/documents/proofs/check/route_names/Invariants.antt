use Rattle.std.proofs.Common.{◌≡◌, ◌<◌, ℕ, List, map, take}
use Rattle.schema_checks.specs.Routes.{IsPrintedRoute}
use Rattle.documents.specs.Names.{edge_name}
use Rattle.documents.proofs.check.route_names.Given as goal

abbrev pub invariant-loop-place : goal.invariant-loop-place
invariant-loop-place l = record {
  names : (route : List ℕ) → IsPrintedRoute l.checked l.kind route → l.names ≡ map (edge_name l.schema) (take l.place route);
  printed : 0 < l.place → (route : List ℕ) × IsPrintedRoute l.checked l.kind route;
}
