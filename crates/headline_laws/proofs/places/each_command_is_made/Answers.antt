use Rattle.headline_laws.proofs.Placing as of
use Rattle.headline_laws.proofs.places.each_command_is_made.Goals as goal

pub returns : goal.returns
returns c = of.made_at
