use Rattle.std.proofs.Common.{List, ap, ◌∙◌}
use Rattle.delf_model.specs.State.{Logged}
use Rattle.job_table.specs.Parts.{logged_of, handled_of}
use Rattle.job_table.specs.Restoring.{restoring_at}
use Rattle.job_table.proofs.Restores.{changed_queue, others_after, handled_missing}
use Rattle.job_table.proofs.apply.handle.Goals as goal

pub returns-in-Some-clause-told : goal.returns-in-Some-clause-told
returns-in-Some-clause-told c =
    changed_queue c.args.jobs.now.list c.args.jobs.now.list c.args.items.now.list c.handle.new.self.list c.args.restoring.now.list c.change.new.self.list c.job-job.result c.restoring_at-after.result c.requires.told
    (λ other n. ap (λ (xs : List Logged). restoring_at c.args.jobs.now.list xs other) c.handle.ensures.list
    ∙ others_after c.args.jobs.now.list c.args.items.now.list c.job-job.result c.args.i (logged_of c.in-Some.kept) (handled_of c.args.how) c.in-Some.ensures c.job-job.ensures other n)
    c.restoring_at-after.ensures c.change.ensures.value

pub returns-in-None-clause-list : goal.returns-in-None-clause-list
returns-in-None-clause-list c = handled_missing c.args.items.now.list c.args.i (handled_of c.args.how) c.in-None.ensures
