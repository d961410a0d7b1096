-- Which records nothing needs.
use Rattle.std.specs.Prelude.{List, Contains}
use Rattle.delf_model.specs.State.{State}
use Rattle.delf_model.specs.Payloads.{Carrier}
use Rattle.payload_laws.specs.Holders.{IsLive}

-- no needed payload stands in these records
abbrev pub AreDead : State → List Carrier → Type 0
AreDead s carriers = (carrier : Carrier) → Contains carriers carrier → IsLive s carrier → ⊥
