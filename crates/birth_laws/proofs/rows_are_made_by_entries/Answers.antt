use Rattle.birth_laws.proofs.Rows.{rows_made}
use Rattle.birth_laws.proofs.rows_are_made_by_entries.Goals as goal

pub returns : goal.returns
returns c = rows_made
