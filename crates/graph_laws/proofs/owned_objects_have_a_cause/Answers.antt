use Rattle.graph_laws.proofs.Condemned.{owned_for_cause}
use Rattle.graph_laws.proofs.owned_objects_have_a_cause.Goals as goal

pub returns : goal.returns
returns c = owned_for_cause
