use Rattle.std.proofs.Common.{◌∙◌, ap, arith}
use Rattle.std.specs.Prelude.{slice_get}
use Rattle.job_table.specs.Table.{Table}
use Rattle.job_table.specs.Free.{free_step}
use Rattle.job_table.proofs.FreeSteps.{free_here, free_past, free_over, within}
use Rattle.job_table.proofs.table.JobTable.free_erasure.Goals as goal

pub returns-in-None-clause-value : goal.returns-in-None-clause-value
returns-in-None-clause-value g c =
    free_over (g.G.GraphStore.graph c.args.graph.now) c.args.self.now.held c.args.self.now.owners c.pairs.i c.pairs.invariant
    (c.in-None.ensures.value ∙ ap (λ (t : Table). slice_get t.owners c.pairs.i) c.self.view_is)

pub returns-then-is_some-clause-value : goal.returns-then-is_some-clause-value
returns-then-is_some-clause-value g c =
    free_here (g.G.GraphStore.graph c.args.graph.now) c.args.self.now.held c.args.self.now.owners c.pairs.i c.in-Some.pair c.free_step-step.result c.is_some.result c.pairs.invariant
    (c.in-Some.ensures.value ∙ ap (λ (t : Table). slice_get t.owners c.pairs.i) c.self.view_is)
    (c.free_step-step.ensures ∙ ap (λ (t : Table). free_step (g.G.GraphStore.graph c.args.graph.now) t.held c.in-Some.pair) c.self.view_is)
    c.is_some.ensures c.if-is_some.true

pub overflow_add-i : goal.overflow_add-i
overflow_add-i g c =
    let l = within c.self.inside.owners.list c.pairs.i c.in-Some.pair c.in-Some.ensures.value in
    omega (arith, l, c.in-Some.ensures.fits)

pub pairs-smaller : goal.pairs-smaller
pairs-smaller g c =
    let l = within c.args.self.now.owners c.pairs.i c.in-Some.pair (c.in-Some.ensures.value ∙ ap (λ (t : Table). slice_get t.owners c.pairs.i) c.self.view_is) in
    omega (arith, l)

pub pairs-preserved : goal.pairs-preserved
pairs-preserved g c =
    free_past (g.G.GraphStore.graph c.args.graph.now) c.args.self.now.held c.args.self.now.owners c.pairs.i c.in-Some.pair c.free_step-step.result c.is_some.result c.pairs.invariant
    (c.in-Some.ensures.value ∙ ap (λ (t : Table). slice_get t.owners c.pairs.i) c.self.view_is)
    (c.free_step-step.ensures ∙ ap (λ (t : Table). free_step (g.G.GraphStore.graph c.args.graph.now) t.held c.in-Some.pair) c.self.view_is)
    c.is_some.ensures c.if-is_some.false
