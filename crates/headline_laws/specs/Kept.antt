-- What becomes of payloads and seals along a script.
use Rattle.std.specs.Prelude.{◌≡◌, ℕ, ◌<◌, true, false, None, length, find}
use Rattle.delf_model.specs.Payloads.{payload_at, is_needed, is_at}
use Rattle.store_laws.specs.Stores.{AreSealed}
use Rattle.script_runner.specs.Worlds.{World, state_of}

-- no position that is not needed has a payload
abbrev pub HasOnlyNeeded : World → Type 0
HasOnlyNeeded w = (p : ℕ) → is_needed (state_of w) p ≡ false → find (is_at p) w.payloads.bytes ≡ None

-- each position of the first history that is needed at the last was needed at the first, and its payload is the same
pub record KeepsPayloads (first last : World) : Type 0 where
  pub needed : (p : ℕ) → p < length first.history → is_needed (state_of last) p ≡ true → is_needed (state_of first) p ≡ true
  pub bytes : (p : ℕ) → p < length first.history → is_needed (state_of last) p ≡ true → payload_at last.payloads p ≡ payload_at first.payloads p

-- each item has a seal, and what the restoration log carries of needed payloads is what was sealed
pub record IsSealed (w : World) : Type 0 where
  pub sealed : AreSealed w.rules w.history w.payloads
  pub count : length w.payloads.seals ≡ length (state_of w).items
