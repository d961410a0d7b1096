use Rattle.delf_model.proofs.Good.{leaves_by_owner}
use Rattle.reach_laws.proofs.what_leaves_has_an_owner.Goals as goal

pub returns : goal.returns
returns c = leaves_by_owner
