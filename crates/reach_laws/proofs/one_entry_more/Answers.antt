use Rattle.reach_laws.proofs.Parts.{one_more}
use Rattle.reach_laws.proofs.one_entry_more.Goals as goal

pub returns : goal.returns
returns c = one_more
