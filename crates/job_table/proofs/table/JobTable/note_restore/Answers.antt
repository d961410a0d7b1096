use Rattle.std.proofs.Common.{List, arith, ap, ◌∙◌}
use Rattle.std.proofs.lemmas.Grind.{common_steps}
use Rattle.delf_model.specs.State.{JobRow}
use Rattle.job_table.specs.Restoring.{restoring_at}
use Rattle.job_table.proofs.Restores.{changed_queue, others_restored}
use Rattle.job_table.proofs.Fresh.{restored_own}
use Rattle.job_table.proofs.table.JobTable.note_restore.Goals as goal

pub invariant_of-self : goal.invariant_of-self
invariant_of-self c = (
  grind (arith, common_steps),
  changed_queue c.self.inside.jobs.list c.restore.new.self.list c.self.inside.items.list c.self.inside.items.list c.self.inside.restoring.list c.change.new.self.list c.args.job c.restoring_at-after.result c.self.invariant.1
      (λ other n. ap (λ (xs : List JobRow). restoring_at xs c.self.inside.items.list other) c.restore.ensures.list ∙ others_restored c.args.job c.self.inside.len c.self.inside.jobs.list c.self.inside.items.list other n)
      c.restoring_at-after.ensures c.change.ensures.value,
  restored_own c.args.job c.self.inside.len c.self.inside.jobs.list c.restore.new.self.list c.self.inside.owners.list c.self.invariant.2 c.restore.ensures.list,
)
