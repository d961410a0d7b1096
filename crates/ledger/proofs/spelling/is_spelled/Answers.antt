use Rattle.std.proofs.Common.{ℕ, ◌≤◌, subst}
use Rattle.ledger.proofs.Bounds.{legal_bounded, legal_moment}
use Rattle.ledger.proofs.spelling.is_spelled.Goals as goal

pub has_spelling-requires-clause-bounded : goal.has_spelling-requires-clause-bounded
has_spelling-requires-clause-bounded c = legal_bounded c.args.rules.now c.args.entry.now (subst (λ (n : ℕ). n ≤ 64) c.objects_len-kinds.ensures.value c.objects_len-kinds.ensures.below) c.requires

pub has_spelling-requires-clause-moment : goal.has_spelling-requires-clause-moment
has_spelling-requires-clause-moment c = legal_moment c.args.rules.now c.args.entry.now c.requires
