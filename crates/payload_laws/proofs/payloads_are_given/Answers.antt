use Rattle.payload_laws.proofs.Given.{given_along}
use Rattle.payload_laws.proofs.payloads_are_given.Goals as goal

pub returns : goal.returns
returns c = given_along
