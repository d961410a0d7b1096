use Rattle.std.proofs.Common.{sym}
use Rattle.payload_digest.proofs.Empty.{empty_digest}
use Rattle.payload_digest.proofs.digest.of_nothing.Goals as goal

pub returns : goal.returns
returns c = sym empty_digest
