use Rattle.std.proofs.Common.{◌≡◌, ◌-◌, ◌≤◌}
use Rattle.std.specs.Prelude.{find}
use Rattle.delf_model.specs.State.{State}
use Rattle.delf_model.specs.Order.{expires}
use Rattle.job_table.specs.Table.{IsTableOf}
use Rattle.job_table.proofs.Dues.{expires_after, low_of}
use Rattle.job_table.proofs.table.JobTable.first_expiry.Given as goal

abbrev pub invariant-dues : goal.invariant-dues
invariant-dues g l = record {
  same : (s : State) → IsTableOf s l.self → g.G.GraphStore.graph l.graph ≡ s.graph →
      find (expires_after s l.moment l.after) s.graph.objects ≡ find (expires s l.moment) s.graph.objects;
  low : low_of l.after ≡ l.low;
  below : l.low ≤ 999999999999;
}

abbrev pub decreases-dues : goal.decreases-dues
decreases-dues g l = 1000000000000 - l.low
