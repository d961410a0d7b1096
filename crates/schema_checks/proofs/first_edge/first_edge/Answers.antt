use Rattle.std.proofs.Common.{◌<◌, ℕ, arith}
use Rattle.schema_checks.specs.Routes.{BeginsShortest}
use Rattle.schema_checks.proofs.Printed.{some_begins, begins_within}
use Rattle.schema_checks.proofs.first_edge.first_edge.Goals as goal

pub returns : goal.returns
returns c =
    let above : 0 < c.in_ok-edges.edges = omega arith in
    let some : (edge : ℕ) × BeginsShortest c.args.rules.now c.args.kind c.in_ok-edges.edges edge = some_begins c.args.rules.now c.args.kind c.in_ok-edges.edges c.in_ok-edges.ensures above in
    absurd (c.loop-row.invariant some.0 (omega (arith, begins_within c.args.rules.now c.args.kind c.in_ok-edges.edges some.0 some.1)) some.1)
