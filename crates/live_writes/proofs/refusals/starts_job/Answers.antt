use Rattle.std.proofs.Common.{sym, ◌∙◌}
use Rattle.job_table.proofs.Steps.{Ordered}
use Rattle.job_table.proofs.Applied.{ordered, starts_is}
use Rattle.live_writes.proofs.InOrder.{is_some-cond}
use Rattle.live_writes.proofs.refusals.starts_job.Goals as goal

pub returns : goal.returns
returns g c =
    λ s name i stands.
    let o : Ordered s.graph = ordered s (g.G.GraphStore.graph c.args.graph.now) i.graph (g.met.G.GraphStore.objects_in_order c.args.graph.now)
    (g.met.G.GraphStore.edges_in_order c.args.graph.now) (g.met.G.GraphStore.ends_stand c.args.graph.now) in
    c.takes_last_reference.ensures ∙ sym (starts_is s _ _ c.args.rules.now c.args.key i o stands) ∙ is_some-cond _ _
