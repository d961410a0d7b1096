use Rattle.std.proofs.Common.{List, refl, arith, ap, ◌∙◌}
use Rattle.std.proofs.lemmas.Grind.{common_steps}
use Rattle.delf_model.specs.State.{JobRow}
use Rattle.job_table.specs.Restoring.{restored_in}
use Rattle.job_table.proofs.Restores.{kept_queue, restored_erased}
use Rattle.job_table.proofs.Fresh.{erased_own}
use Rattle.job_table.proofs.table.JobTable.note_item.Goals as goal

pub invariant_of-self : goal.invariant_of-self
invariant_of-self c = (
  grind (arith, common_steps),
  kept_queue c.self.inside.jobs.list c.erase.new.self.list c.push.new.items.list c.push.new.restoring.list
      (λ job. ap (λ (xs : List JobRow). restored_in xs job) c.erase.ensures.list ∙ restored_erased c.args.job c.args.moment c.self.inside.jobs.list job) c.push.ensures.told,
  erased_own c.args.job c.args.moment c.self.inside.jobs.list c.erase.new.self.list c.self.inside.owners.list c.self.inside.owners.list c.self.invariant.2 c.erase.ensures.list (λ other n. refl),
)
