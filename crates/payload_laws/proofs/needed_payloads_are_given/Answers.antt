use Rattle.delf_model.specs.Step.{after}
use Rattle.delf_model.specs.Payloads.{payloads_along}
use Rattle.payload_laws.proofs.Given.{given_along, payload_given}
use Rattle.payload_laws.proofs.needed_payloads_are_given.Goals as goal

pub returns : goal.returns
returns c =
    λ digest given rules h p legal needed.
    payload_given digest given (after rules h) (payloads_along digest given rules h) (given_along digest given rules h legal) p needed
