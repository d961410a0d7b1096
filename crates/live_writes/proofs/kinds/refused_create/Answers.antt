use Rattle.std.proofs.Common.{sym, ◌∙◌}
use Rattle.delf_model.specs.declared.entry.What.TheVariants.{Create}
use Rattle.job_table.proofs.Calls.{name_free, create_owed}
use Rattle.live_writes.proofs.InOrder.{stop, skip, only}
use Rattle.live_writes.proofs.kinds.refused_create.Goals as goal

pub returns-in-Some-name_taken-clause-refused : goal.returns-in-Some-name_taken-clause-refused
returns-in-Some-name_taken-clause-refused g c =
    λ s m kind tag t i. skip _ _ _ (sym c.in_default.is ∙ c.too_long.ensures) (stop _ _ _ (c.in-Some-name_taken.ensures s _ _ i))

pub returns-clause-refused : goal.returns-clause-refused
returns-clause-refused g c =
    λ s m kind tag t i.
    let free = sym c.in_default-name_taken.is ∙ c.name_taken.ensures s _ _ i in
    skip _ _ _ (sym c.in_default.is ∙ c.too_long.ensures)
    (skip _ _ _ free
    (only _ _ (c.full.ensures s m (Create tag kind c.args.id c.args.size) t
    (create_owed s m kind c.args.id c.args.size tag t.keeps (name_free s c.args.id (sym free))))))
