use Rattle.std.proofs.Common.{rules, ◌≡◌, ℕ, List, length, subst}
use Rattle.std.specs.Prelude.{IsTrue, ◌↔◌}
use Rattle.std.proofs.lemmas.List.{take-replicate}
use Rattle.delf_recovery.proofs.blank.are_zeros.Goals as goal

pub returns : goal.returns
returns c =
    subst (λ (zeros : List ℕ). IsTrue c.eq.result ↔ (c.args.bytes.now ≡ zeros)) (take-replicate (length c.args.bytes.now) 512 0 c.requires) (search rules)
