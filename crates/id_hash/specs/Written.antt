-- What the hasher computes.
use Rattle.std.specs.Prelude.{ℕ, ◌-◌, ◌*◌, ◌/◌, ◌^◌, List, length, fold, bit_and, bit_xor, nat_eq, if◌then◌else◌}
use Rattle.std.specs.Int.{w64, from_le_bytes}
use Rattle.id_hash.specs.declared.id_hasher.IdHasher.{IdHasher}

abbrev pub started : IdHasher
started = record { state = 0x243f_6a88_85a3_08d3 }

-- the two halves of a product of 128 bits, joined by xor
abbrev pub joined : ℕ → ℕ
joined product = bit_xor (bit_and product (2 ^ 64 - 1)) (product / 2 ^ 64)

-- the state once this number is hashed too
abbrev pub mixed : ℕ → ℕ → ℕ
mixed state number = joined (bit_xor state number * 0x9e37_79b9_7f4a_7c15)

-- eight bytes are hashed as one number, the lowest first, and others each by itself
abbrev pub written : IdHasher → List ℕ → IdHasher
written hasher bytes = record { state = if nat_eq (length bytes) 8 then mixed hasher.state (from_le_bytes w64 bytes) else fold mixed hasher.state bytes }
