use Rattle.std.proofs.Common.{◌≡◌, ◌≤◌, ◌-◌, ◌++◌, IsTrue, vec_len}
use Rattle.documents.proofs.read.read_at_most.Given as goal

abbrev pub invariant-turns : goal.invariant-turns
invariant-turns g l =
    (vec_len l.read ≤ l.limit)
    × (g.S.Source.told l.source ≡ g.S.Source.told l.initial.source)
    × (IsTrue (g.S.Source.told l.initial.source) → g.S.Source.left l.initial.source ≡ l.read.items ++ g.S.Source.left l.source)
    × (g.S.Source.faults l.source ≡ g.S.Source.faults l.initial.source)

abbrev pub decreases-turns : goal.decreases-turns
decreases-turns g l = l.limit - vec_len l.read
