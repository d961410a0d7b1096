use Rattle.order_laws.proofs.First.{first_is_legal}
use Rattle.order_laws.proofs.first_step_is_legal.Goals as goal

pub returns : goal.returns
returns c = first_is_legal
