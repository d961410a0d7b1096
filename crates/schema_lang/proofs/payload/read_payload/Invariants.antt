use Rattle.std.proofs.Common.{◌≡◌, ◌≤◌, [], length}
use Rattle.schema_lang.specs.Words.{within_payload}
use Rattle.schema_lang.proofs.payload.read_payload.Given as goal

abbrev pub invariant-loop-byte : goal.invariant-loop-byte
invariant-loop-byte l = record { same : within_payload l.bytes.items l.rest ≡ within_payload [] l.text; bound : length l.rest ≤ length l.text }

abbrev pub decreases-loop-byte : goal.decreases-loop-byte
decreases-loop-byte l = length l.rest
