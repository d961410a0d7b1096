use Rattle.std.proofs.Common.{◌≡◌, ◌∙◌, ap, subst, true}
use Rattle.delf_model.specs.Graph.{Graph, objects_rise}
use Rattle.delf_model.specs.RuleSet.{RuleSet}
use Rattle.job_table.proofs.NextSteps.{erasure_next, expiry_next, purge_next, all_held}
use Rattle.job_table.proofs.table.JobTable.next_free.Goals as goal

pub returns-in-Some : goal.returns-in-Some
returns-in-Some g c =
    λ s h w f. erasure_next s c.args.self.now c.args.moment h f (g.G.GraphStore.graph c.args.graph.now) c.next_of.result c.in-Some.step w.graph c.in-Some.ensures.apart c.in-Some.ensures.value c.next_of.ensures.step

pub returns-in-Some-first_expiry : goal.returns-in-Some-first_expiry
returns-in-Some-first_expiry g c =
    λ s h w f. expiry_next s c.args.self.now c.args.moment h f c.next_of-in-Some-first_expiry.result c.in-Some-first_expiry.step
    (subst (λ (v : Graph). objects_rise v.objects ≡ true) w.graph (g.met.G.GraphStore.objects_in_order c.args.graph.now))
    (c.in-Some-first_expiry.ensures s h w.graph) c.next_of-in-Some-first_expiry.ensures.step

pub returns-in-Some-first_purge : goal.returns-in-Some-first_purge
returns-in-Some-first_purge g c =
    λ s h w f. purge_next s c.args.self.now c.args.moment h f c.next_of-in-Some-first_purge.result c.in-Some-first_purge.step
    (c.in-Some-first_purge.ensures s h (c.window.ensures.value ∙ ap (λ (r : RuleSet). r.window) w.rules)) c.next_of-in-Some-first_purge.ensures.step

pub returns-in-None-first_purge : goal.returns-in-None-first_purge
returns-in-None-first_purge g c =
    λ s h w f. (
      c.held.ensures,
      all_held s c.args.self.now c.args.moment h f (g.G.GraphStore.graph c.args.graph.now) w.graph c.in-None.ensures.value (c.in-None-first_expiry.ensures s h w.graph)
          (c.in-None-first_purge.ensures s h (c.window.ensures.value ∙ ap (λ (r : RuleSet). r.window) w.rules)),
    )
