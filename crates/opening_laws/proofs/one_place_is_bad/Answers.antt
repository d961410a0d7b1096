use Rattle.opening_laws.proofs.Bad.{one_place}
use Rattle.opening_laws.proofs.one_place_is_bad.Goals as goal

pub returns : goal.returns
returns c = one_place
