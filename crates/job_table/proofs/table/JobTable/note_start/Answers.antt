use Rattle.std.proofs.Common.{List, arith, ap, ◌∙◌}
use Rattle.std.proofs.lemmas.Grind.{common_steps}
use Rattle.delf_model.specs.State.{JobRow}
use Rattle.job_table.specs.Restoring.{restored_in}
use Rattle.job_table.proofs.Restores.{kept_queue, restored_started}
use Rattle.job_table.proofs.Fresh.{started_own}
use Rattle.job_table.proofs.table.JobTable.note_start.Goals as goal

pub invariant_of-self : goal.invariant_of-self
invariant_of-self c = (
  grind (arith, common_steps),
  kept_queue c.self.inside.jobs.list c.start.new.self.list c.self.inside.items.list c.self.inside.restoring.list
      (λ job. ap (λ (xs : List JobRow). restored_in xs job) c.start.ensures.list ∙ restored_started c.self.inside.len c.args.root c.args.name c.self.inside.jobs.list job) c.self.invariant.1,
  started_own c.self.inside.len c.args.root c.args.name c.self.inside.jobs.list c.start.new.self.list c.self.inside.owners.list c.own.new.self.list c.self.invariant.2 c.start.ensures.list c.own.ensures.gains,
)
