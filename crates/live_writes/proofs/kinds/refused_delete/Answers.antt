use Rattle.std.proofs.Common.{sym, ◌∙◌}
use Rattle.live_writes.proofs.InOrder.{stop, skip, only}
use Rattle.live_writes.proofs.kinds.refused_delete.Goals as goal

pub returns-in-Some : goal.returns-in-Some
returns-in-Some g c = λ s m tag t i. stop _ _ _ (c.in-Some.ensures s _ _ i)

pub returns-in-Some-condemned : goal.returns-in-Some-condemned
returns-in-Some-condemned g c =
    λ s m tag t i. skip _ _ _ (sym c.in_default.is ∙ c.absent.ensures s _ _ i) (stop _ _ _ (c.in-Some-condemned.ensures s t))

pub returns-in-Some-not_direct : goal.returns-in-Some-not_direct
returns-in-Some-not_direct g c =
    λ s m tag t i.
    skip _ _ _ (sym c.in_default.is ∙ c.absent.ensures s _ _ i)
    (skip _ _ _ (sym c.in_default-condemned.is ∙ c.condemned.ensures s t) (stop _ _ _ (c.in-Some-not_direct.ensures s _ i)))

pub returns : goal.returns
returns g c =
    λ s m tag t i.
    skip _ _ _ (sym c.in_default.is ∙ c.absent.ensures s _ _ i)
    (skip _ _ _ (sym c.in_default-condemned.is ∙ c.condemned.ensures s t)
    (skip _ _ _ (sym c.in_default-not_direct.is ∙ c.not_direct.ensures s _ i) (only _ _ (c.job_taken.ensures s t))))
