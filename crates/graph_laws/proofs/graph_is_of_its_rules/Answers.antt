use Rattle.graph_laws.proofs.Condemned.{graph_of_rules}
use Rattle.graph_laws.proofs.graph_is_of_its_rules.Goals as goal

pub returns : goal.returns
returns c = graph_of_rules
