use Rattle.headline_laws.proofs.Placing as of
use Rattle.headline_laws.proofs.places.acknowledged_calls_stand_once.Goals as goal

pub returns : goal.returns
returns c = of.acknowledged_stands
