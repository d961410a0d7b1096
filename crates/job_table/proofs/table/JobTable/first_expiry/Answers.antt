use Rattle.std.proofs.Common.{◌≡◌, ◌∙◌, ap, sym, subst, true, arith}
use Rattle.delf_model.specs.Graph.{Graph, objects_rise}
use Rattle.delf_model.specs.Store.{least_due}
use Rattle.job_table.proofs.Dues.{told_none, told_expires, told_passes, told_above, none_told}
use Rattle.job_table.proofs.table.JobTable.first_expiry.Goals as goal

pub returns-in-None : goal.returns-in-None
returns-in-None g c =
    λ s h w. told_none s c.args.moment c.dues.after s.graph.objects
    (c.in-None.ensures ∙ ap (λ (v : Graph). least_due c.args.moment c.dues.after v.objects) w) (c.dues.invariant.same s h w)

pub returns-then-is_none : goal.returns-then-is_none
returns-then-is_none g c =
    λ s h w. told_expires s c.args.moment c.in-Some.id c.dues.after s.graph.objects
    (c.in-Some.ensures ∙ ap (λ (v : Graph). least_due c.args.moment c.dues.after v.objects) w) (c.dues.invariant.same s h w)
    (none_told _ c.owner.result c.is_none.result _ (c.owner.ensures s h) c.is_none.ensures c.if-is_none.true)

pub dues-smaller : goal.dues-smaller
dues-smaller g c =
    let up = told_above c.args.moment c.in-Some.id c.dues.after (g.G.GraphStore.graph c.args.graph.now).objects c.in-Some.ensures (omega (arith, c.get-low.ensures.above, c.get-low.ensures.value)) in
    omega (arith, up, c.dues.invariant.low, c.get-low.ensures.value, c.get-low.ensures.below)

pub dues-preserved : goal.dues-preserved
dues-preserved g c = record {
  same = λ s h w. told_passes s c.args.moment c.in-Some.id c.dues.after s.graph.objects
      (subst (λ (v : Graph). objects_rise v.objects ≡ true) w (g.met.G.GraphStore.objects_in_order c.args.graph.now))
      (c.in-Some.ensures ∙ ap (λ (v : Graph). least_due c.args.moment c.dues.after v.objects) w) (c.dues.invariant.same s h w)
      (none_told _ c.owner.result c.is_none.result _ (c.owner.ensures s h) c.is_none.ensures c.if-is_none.false);
  low = sym c.get-low.ensures.value;
  below = c.get-low.ensures.below;
}
