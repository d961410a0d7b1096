use Rattle.reach_laws.proofs.Calm.{order_does_not_matter}
use Rattle.reach_laws.proofs.order_does_not_matter.Goals as goal

pub returns : goal.returns
returns c = order_does_not_matter
