use Rattle.delf_model.specs.Step.{after}
use Rattle.delf_model.specs.Payloads.{payloads_along}
use Rattle.payload_laws.proofs.Given.{given_along, none_damaged}
use Rattle.payload_laws.proofs.given_payloads_are_not_damaged.Goals as goal

pub returns : goal.returns
returns c =
    λ digest given rules h i legal damaged.
    none_damaged digest given (after rules h) (payloads_along digest given rules h) (given_along digest given rules h legal) i damaged
