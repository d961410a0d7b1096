use Rattle.std.proofs.Common.{◌≡◌, take, fold}
use Rattle.id_hash.specs.Written.{mixed}
use Rattle.id_hash.proofs.id_hasher.IdHasherHasher.write.Given as goal

abbrev pub invariant-loop-byte : goal.invariant-loop-byte
invariant-loop-byte l = l.self.state ≡ fold mixed l.initial.self.state (take l.byte-index l.bytes)
