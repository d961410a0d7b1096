use Rattle.held_laws.proofs.Steps.{held_steps_stay}
use Rattle.held_laws.proofs.held_steps_stay.Goals as goal

pub returns : goal.returns
returns c = held_steps_stay
