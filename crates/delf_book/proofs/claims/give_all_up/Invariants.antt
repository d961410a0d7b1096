use Rattle.std.proofs.Common.{◌≡◌, drop}
use Rattle.delf_book.specs.Claims.{steps_of}
use Rattle.delf_book.proofs.claims.give_all_up.Given as goal

abbrev pub invariant-loop-claim : goal.invariant-loop-claim
invariant-loop-claim g l = l.ledger ≡ record l.initial.ledger { held = steps_of (drop l.claim-index l.claims) }
