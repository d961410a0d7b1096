use Rattle.headline_laws.proofs.Finding as of
use Rattle.headline_laws.proofs.found.found_whole_is_sealed.Goals as goal

pub returns : goal.returns
returns c = of.found_sealed
