use Rattle.headline_laws.proofs.Same as of
use Rattle.headline_laws.proofs.one_meaning.Goals as goal

pub returns : goal.returns
returns c = of.one_meaning
