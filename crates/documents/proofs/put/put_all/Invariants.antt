use Rattle.std.proofs.Common.{◌≡◌, ◌≤◌, ◌-◌, ◌++◌, IsTrue, length, take}
use Rattle.documents.proofs.put.put_all.Given as goal

abbrev pub invariant-turns : goal.invariant-turns
invariant-turns g l =
    (l.at ≤ length l.text)
    × (g.K.Sink.told l.sink ≡ g.K.Sink.told l.initial.sink)
    × (IsTrue (g.K.Sink.told l.initial.sink) → g.K.Sink.held l.sink ≡ g.K.Sink.held l.initial.sink ++ take l.at l.text)
    × (g.K.Sink.faults l.sink ≡ g.K.Sink.faults l.initial.sink)

abbrev pub decreases-turns : goal.decreases-turns
decreases-turns g l = length l.text - l.at
