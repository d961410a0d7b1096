use Rattle.headline_laws.proofs.Whose as of
use Rattle.headline_laws.proofs.places.each_tagged_entry_is_of_a_call.Goals as goal

pub returns : goal.returns
returns c = of.whose
