use Rattle.headline_laws.proofs.Keeping as of
use Rattle.headline_laws.proofs.kept.payloads_are_what_calls_gave.Goals as goal

pub returns : goal.returns
returns c = of.given_stands
