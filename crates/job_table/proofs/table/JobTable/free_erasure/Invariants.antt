use Rattle.std.proofs.Common.{◌≡◌, ◌-◌, drop, length}
use Rattle.std.specs.Prelude.{find}
use Rattle.job_table.specs.Free.{has_free}
use Rattle.job_table.proofs.table.JobTable.free_erasure.Given as goal

abbrev pub invariant-pairs : goal.invariant-pairs
invariant-pairs g l =
    find (has_free (g.G.GraphStore.graph l.graph) l.self.held) l.self.owners ≡ find (has_free (g.G.GraphStore.graph l.graph) l.self.held) (drop l.i l.self.owners)

abbrev pub decreases-pairs : goal.decreases-pairs
decreases-pairs g l = length l.self.owners - l.i
