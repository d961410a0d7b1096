-- Payloads by what they tell.
use Rattle.std.specs.Prelude.{◌≡◌, ℕ}
use Rattle.delf_model.specs.Payloads.{Payloads, payload_at}

-- the same payload at each position, and the same seals
pub record SamePayloads (d e : Payloads) : Type 0 where
  pub bytes : (p : ℕ) → payload_at d p ≡ payload_at e p
  pub seals : d.seals ≡ e.seals
