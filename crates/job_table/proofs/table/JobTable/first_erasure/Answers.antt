use Rattle.std.proofs.Common.{◌≡◌, ◌∙◌, ap, subst, true, Some}
use Rattle.delf_model.specs.declared.entry.What.{What}
use Rattle.delf_model.specs.Graph.{Graph, objects_rise}
use Rattle.job_table.proofs.Owning.{pair_first, pair_none}
use Rattle.job_table.proofs.table.JobTable.first_erasure.Goals as goal

pub returns-in-Some : goal.returns-in-Some
returns-in-Some g c =
    λ s h w. ap (λ (v : What). Some v) c.cut_or_erase.ensures
    ∙ pair_first s c.args.self.now h c.in-Some.ensures.rise c.in-Some.ensures.apart (g.G.GraphStore.graph c.args.graph.now) c.in-Some.pair w
    (subst (λ (v : Graph). objects_rise v.objects ≡ true) w (g.met.G.GraphStore.objects_in_order c.args.graph.now)) c.in-Some.ensures.value

pub returns-in-None : goal.returns-in-None
returns-in-None g c = λ s h w. pair_none s c.args.self.now h c.in-None.ensures.rise c.in-None.ensures.apart c.in-None.ensures.value
