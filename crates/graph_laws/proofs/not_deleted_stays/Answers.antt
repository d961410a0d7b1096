use Rattle.graph_laws.proofs.Condemned.{not_deleted_stays}
use Rattle.graph_laws.proofs.not_deleted_stays.Goals as goal

pub returns : goal.returns
returns c = not_deleted_stays
