use Rattle.payload_laws.proofs.Moves.{payloads_held}
use Rattle.payload_laws.proofs.payloads_are_held.Goals as goal

pub returns : goal.returns
returns c = payloads_held
