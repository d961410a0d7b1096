use Rattle.store_laws.proofs.Appends.{vault_may, vault_adds}
use Rattle.store_laws.proofs.areas.vault_appends.Goals as goal

pub returns-clause-may : goal.returns-clause-may
returns-clause-may c = vault_may

pub returns-clause-adds : goal.returns-clause-adds
returns-clause-adds c = vault_adds
