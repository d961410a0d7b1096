use Rattle.std.proofs.Common.{sym, ◌∙◌}
use Rattle.live_writes.proofs.InOrder.{stop, skip, only}
use Rattle.live_writes.proofs.kinds.refused_ends.Goals as goal

pub returns-in-Some : goal.returns-in-Some
returns-in-Some g c = λ s refs ruled t i. stop _ _ _ (c.in-Some.ensures s refs ruled i)

pub returns-in-Some-absent : goal.returns-in-Some-absent
returns-in-Some-absent g c =
    λ s refs ruled t i. skip _ _ _ (sym c.in_default.is ∙ c.absent.ensures s refs ruled i) (stop _ _ _ (c.in-Some-absent.ensures s refs ruled i))

pub returns-in-Some-condemned : goal.returns-in-Some-condemned
returns-in-Some-condemned g c =
    λ s refs ruled t i.
    skip _ _ _ (sym c.in_default.is ∙ c.absent.ensures s refs ruled i)
    (skip _ _ _ (sym c.in_default-absent.is ∙ c.absent-2.ensures s refs ruled i) (stop _ _ _ (c.in-Some-condemned.ensures s t)))

pub returns : goal.returns
returns g c =
    λ s refs ruled t i.
    skip _ _ _ (sym c.in_default.is ∙ c.absent.ensures s refs ruled i)
    (skip _ _ _ (sym c.in_default-absent.is ∙ c.absent-2.ensures s refs ruled i)
    (skip _ _ _ (sym c.in_default-condemned.is ∙ c.condemned.ensures s t) (only _ _ (c.condemned-2.ensures s t))))
