use Rattle.std.proofs.Common.{◌≡◌, ◌+◌, ◌-◌, ◌++◌, ℕ, List, arith, length, take, drop, append_assoc, refl}
use Rattle.std.proofs.lemmas.Grind.{common_steps}
use Rattle.std.proofs.Math.Seq.{take-add}
use Rattle.documents.proofs.put.put_all.Goals as goal

-- what is held after two pieces of a text, the second of which begins where the first ended
held-two_pieces : (before between after text : List ℕ) (at taken : ℕ)
    → between ≡ before ++ take at text
    → after ≡ between ++ take taken (take (length text - at) (drop at text))
    → after ≡ before ++ take (at + taken) text
held-two_pieces before between after text at taken first second =
    let rest : take (length text - at) (drop at text) ≡ drop at text = grind (arith, common_steps) in
    rw (second, first, rest, take-add at taken text) (rw append_assoc refl)

pub turns-preserved : goal.turns-preserved
turns-preserved g c =
    let added = c.in-Ok.ensures.added in (
      omega (arith, c.in-Ok.ensures.within.0),
      grind (arith, c.put.ensures.same_told),
      (λ told. held-two_pieces _ _ _ c.args.text.now c.turns.at c.in-Ok.taken (c.turns.invariant.2 told) (added (grind (arith, told)))),
      grind arith,
    )
