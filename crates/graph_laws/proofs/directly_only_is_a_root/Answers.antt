use Rattle.graph_laws.proofs.Condemned.{directly_only_is_root}
use Rattle.graph_laws.proofs.directly_only_is_a_root.Goals as goal

pub returns : goal.returns
returns c = directly_only_is_root
