use Rattle.delf_service.proofs.Books.{answers_in}
use Rattle.delf_service.proofs.held.Held.submit.Goals as goal

pub returns : goal.returns
returns g c = record {
  legal = c.len-at.ensures.legal;
  at_is = c.len-at.ensures.value;
  answers = answers_in g.R.Disk c.args.self.now.moment c.args.self.now.lanes c.args.self.now.book c.call-reply.new.self c.args.now c.args.seat c.args.call.now c.call-reply.result c.call-reply.ensures.answer
      c.call-reply.ensures.payloads c.call-reply.ensures.cause c.call-reply.ensures.kind;
  cause = c.standing.ensures.fell;
}
