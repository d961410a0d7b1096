use Rattle.schema_checks.proofs.checked.Checked.+route.Given as goal

abbrev pub decreases-route : goal.decreases-route
decreases-route l = l.i
