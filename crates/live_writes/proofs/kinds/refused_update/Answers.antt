use Rattle.std.proofs.Common.{◌≡◌, ◌+◌, sym, ◌∙◌, arith}
use Rattle.delf_model.specs.declared.entry.What.TheVariants.{Update}
use Rattle.delf_model.specs.Step.{step}
use Rattle.delf_model.specs.Room.{owed}
use Rattle.job_table.proofs.Calls.{update_owed}
use Rattle.live_writes.proofs.InOrder.{stop, skip, only}
use Rattle.live_writes.proofs.kinds.refused_update.Goals as goal

pub returns-in-Some-absent-clause-refused : goal.returns-in-Some-absent-clause-refused
returns-in-Some-absent-clause-refused g c =
    λ s m tag t i. skip _ _ _ (sym c.in_default.is ∙ c.too_long.ensures) (stop _ _ _ (c.in-Some-absent.ensures s _ _ i))

pub returns-in-Some-condemned-clause-refused : goal.returns-in-Some-condemned-clause-refused
returns-in-Some-condemned-clause-refused g c =
    λ s m tag t i.
    skip _ _ _ (sym c.in_default.is ∙ c.too_long.ensures)
    (skip _ _ _ (sym c.in_default-absent.is ∙ c.absent.ensures s _ _ i) (stop _ _ _ (c.in-Some-condemned.ensures s t)))

pub returns-clause-refused : goal.returns-clause-refused
returns-clause-refused g c =
    λ s m tag t i.
    let same = update_owed s m c.args.id c.args.size tag t.keeps in
    let owes : owed (step s (record { moment = m; what = Update tag c.args.id c.args.size })) ≡ owed s + 0 = omega (arith, same) in
    skip _ _ _ (sym c.in_default.is ∙ c.too_long.ensures)
    (skip _ _ _ (sym c.in_default-absent.is ∙ c.absent.ensures s _ _ i)
    (skip _ _ _ (sym c.in_default-condemned.is ∙ c.condemned.ensures s t)
    (only _ _ (c.full.ensures s m (Update tag c.args.id c.args.size) t owes))))
