use Rattle.std.proofs.Common.{List, ap, ◌∙◌}
use Rattle.delf_model.specs.State.{Logged}
use Rattle.delf_model.specs.Step.{unhandled}
use Rattle.job_table.specs.Restoring.{restoring_at}
use Rattle.job_table.proofs.Restores.{changed_queue, others_with}
use Rattle.job_table.proofs.apply.push.Goals as goal

pub returns-clause-told : goal.returns-clause-told
returns-clause-told c =
    changed_queue c.args.jobs.now.list c.args.jobs.now.list c.args.items.now.list c.push.new.self.list c.args.restoring.now.list c.change.new.self.list c.job-job.result c.restoring_at-after.result c.requires.told
    (λ other n. ap (λ (xs : List Logged). restoring_at c.args.jobs.now.list xs other) c.push.ensures.list
    ∙ others_with c.args.jobs.now.list c.args.items.now.list c.job-job.result (unhandled c.args.item) c.job-job.ensures other n)
    c.restoring_at-after.ensures c.change.ensures.value
