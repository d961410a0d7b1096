use Rattle.std.proofs.Common.{List, arith, ap, ◌∙◌}
use Rattle.std.proofs.lemmas.Grind.{common_steps}
use Rattle.delf_model.specs.State.{JobRow}
use Rattle.job_table.specs.Restoring.{restored_in}
use Rattle.job_table.proofs.Restores.{kept_queue, restored_purged}
use Rattle.job_table.proofs.Fresh.{purged_own}
use Rattle.job_table.proofs.table.JobTable.note_purge.Goals as goal

pub invariant_of-self : goal.invariant_of-self
invariant_of-self c = (
  grind (arith, common_steps),
  kept_queue c.self.inside.jobs.list c.purge.new.self.list c.self.inside.items.list c.self.inside.restoring.list
      (λ job. ap (λ (xs : List JobRow). restored_in xs job) c.purge.ensures.list ∙ restored_purged c.args.job c.self.inside.jobs.list job) c.self.invariant.1,
  purged_own c.args.job c.self.inside.jobs.list c.purge.new.self.list c.self.inside.owners.list c.self.invariant.2 c.purge.ensures.list,
)
