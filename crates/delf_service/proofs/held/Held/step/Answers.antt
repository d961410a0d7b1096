use Rattle.std.proofs.Common.{Err}
use Rattle.delf_service.proofs.Books.{steps_in}
use Rattle.delf_service.proofs.held.Held.step.Goals as goal

pub returns-in-Err-clause-turns : goal.returns-in-Err-clause-turns
returns-in-Err-clause-turns g c = record {
  legal = c.len-len.ensures.legal;
  order = c.work-outcome.ensures.order;
  steps = steps_in g.R.Disk c.args.self.now.moment c.args.self.now.lanes c.args.self.now.book c.work-outcome.new.self c.args.now c.standing.ensures.sealed (Err c.in-Err.fault)
      c.in-Err.ensures.answer c.in-Err.ensures.payloads c.in-Err.ensures.seals c.in-Err.ensures.cause c.work-outcome.ensures.kind c.work-outcome.ensures.order;
  cause = c.standing-2.ensures.fell;
}
