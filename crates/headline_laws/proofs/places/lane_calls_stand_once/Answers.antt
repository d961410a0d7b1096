use Rattle.headline_laws.proofs.Lanes as of
use Rattle.headline_laws.proofs.places.lane_calls_stand_once.Goals as goal

pub returns : goal.returns
returns c = of.lane_stands
