use Rattle.headline_laws.proofs.Finding as of
use Rattle.headline_laws.proofs.found.found_may_begin.Goals as goal

pub returns : goal.returns
returns c = of.found_first
