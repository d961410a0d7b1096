use Rattle.std.proofs.Common.{[], ◌∷◌, arith}
use Rattle.store_laws.proofs.Appends.{rest_stand, ahead_stand}
use Rattle.store_laws.proofs.areas.rest_stands.Goals as goal

pub returns-clause-rest : goal.returns-clause-rest
returns-clause-rest c = rest_stand

pub returns-clause-ahead : goal.returns-clause-ahead
returns-clause-ahead c = λ rules history e added areas. ahead_stand rules history e (added ∷ []) areas (omega arith)
