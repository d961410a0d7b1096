use Rattle.std.proofs.Common.{◌≡◌, ℕ, ◌<◌, get_or}
use Rattle.delf_book.proofs.claims.is_among.Given as goal

abbrev pub invariant-loop-held : goal.invariant-loop-held
invariant-loop-held l = (k : ℕ) → k < l.held-index → get_or l.claims k l.claim ≡ l.claim → ⊥
