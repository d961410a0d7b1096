use Rattle.reach_laws.proofs.Reach.{done_erases_reached}
use Rattle.reach_laws.proofs.done_erases_what_it_reached.Goals as goal

pub returns : goal.returns
returns c = done_erases_reached
