use Rattle.history_laws.proofs.Refused as refused
use Rattle.history_laws.proofs.examples.two_deletions_meet.Goals as goal

pub returns-clause-second : goal.returns-clause-second
returns-clause-second c = refused.second

pub returns-clause-first : goal.returns-clause-first
returns-clause-first c = refused.first
