use Rattle.std.proofs.Common.{◌∙◌, sym}
use Rattle.job_table.proofs.NextSteps.{first_is_step}
use Rattle.job_table.proofs.table.JobTable.next.Goals as goal

pub returns-else-is_held-clause-serial : goal.returns-else-is_held-clause-serial
returns-else-is_held-clause-serial g c =
    λ s h w e. record {
      step = c.next_of.ensures.step (first_is_step s c.args.moment c.in-Some.step (sym (c.in-Some.ensures s h w))) ∙ c.in-Some.ensures s h w;
      idle = c.next_of.ensures.named;
    }
