use Rattle.std.proofs.Common.{ℕ, ◌∙◌, ap, sym}
use Rattle.std.proofs.lemmas.Nat.{from_le_bytes-to_le_bytes_8}
use Rattle.std.specs.Hash.{le_bytes}
use Rattle.id_hash.specs.declared.id_hasher.IdHasher.{IdHasher}
use Rattle.id_hash.specs.Written.{mixed}
use Rattle.id_hash.proofs.id_hasher.IdHasherHasher.write_u64.Goals as goal

abbrev hasher_at : ℕ → IdHasher
hasher_at state = record { state = state }

pub returns : goal.returns
unfolding le_bytes
returns c =
    ap hasher_at
    (c.mixed-self.ensures ∙ ap (mixed c.args.self.now.state) (sym (from_le_bytes-to_le_bytes_8 c.args.i c.ranges.i.fits)))
