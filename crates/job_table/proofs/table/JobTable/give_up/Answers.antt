use Rattle.std.proofs.Common.{arith, ap, length}
use Rattle.delf_model.specs.declared.entry.What.{What}
use Rattle.std.proofs.Common.{List}
use Rattle.job_table.proofs.Places.{given_up_len}
use Rattle.job_table.proofs.table.JobTable.give_up.Goals as goal

pub invariant_of-self : goal.invariant_of-self
invariant_of-self c = (
  record {
    room = c.self.invariant.0.room;
    owners_spare = c.self.invariant.0.owners_spare;
    items_spare = c.self.invariant.0.items_spare;
    jobs_spare = c.self.invariant.0.jobs_spare;
    seats_spare = c.self.invariant.0.seats_spare;
    held_spare = omega (arith, c.give_up.ensures.spare, c.self.invariant.0.held_spare);
    restoring_spare = c.self.invariant.0.restoring_spare;
    owners_len = c.self.invariant.0.owners_len;
    items_len = c.self.invariant.0.items_len;
    jobs_len = c.self.invariant.0.jobs_len;
    seats_len = c.self.invariant.0.seats_len;
    held_len = omega (arith, ap (λ (l : List What). length l) c.give_up.ensures.list, given_up_len c.args.step.now c.self.inside.claims.list, c.self.invariant.0.held_len);
  },
  c.self.invariant.1,
  c.self.invariant.2,
)
