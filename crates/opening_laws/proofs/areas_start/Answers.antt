use Rattle.opening_laws.proofs.Starting.{blank_stands, journal_starts, journal_torn, vault_starts, vault_torn}
use Rattle.opening_laws.proofs.areas_start.Goals as goal

pub returns-clause-blank : goal.returns-clause-blank
returns-clause-blank c = blank_stands

pub returns-clause-journal_torn : goal.returns-clause-journal_torn
returns-clause-journal_torn c = journal_torn

pub returns-clause-vault_torn : goal.returns-clause-vault_torn
returns-clause-vault_torn c = vault_torn

pub returns-clause-journal : goal.returns-clause-journal
returns-clause-journal c = journal_starts

pub returns-clause-vault : goal.returns-clause-vault
returns-clause-vault c = vault_starts
