use Rattle.opening_laws.proofs.Dropping.{stands_ahead, stands_rests}
use Rattle.opening_laws.proofs.areas_are_ahead_by_one.Goals as goal

pub returns-clause-rests : goal.returns-clause-rests
returns-clause-rests c = stands_rests

pub returns-clause-ahead : goal.returns-clause-ahead
returns-clause-ahead c = stands_ahead
