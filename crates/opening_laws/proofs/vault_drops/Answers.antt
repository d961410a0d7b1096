use Rattle.opening_laws.proofs.Dropping.{drops, may_drop}
use Rattle.opening_laws.proofs.vault_drops.Goals as goal

pub returns-clause-may : goal.returns-clause-may
returns-clause-may c = may_drop

pub returns-clause-drops : goal.returns-clause-drops
returns-clause-drops c = drops
