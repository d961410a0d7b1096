use Rattle.headline_laws.proofs.Placing as of
use Rattle.headline_laws.proofs.places.each_call_ends.Goals as goal

pub returns : goal.returns
returns c = of.call_ends
