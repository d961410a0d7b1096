use Rattle.std.proofs.Common.{sym, ◌∙◌}
use Rattle.delf_model.specs.declared.entry.What.TheVariants.{Link}
use Rattle.job_table.proofs.Calls.{edge_free, link_owed}
use Rattle.live_writes.proofs.InOrder.{stop, skip, only, ends_stop, ends_skip}
use Rattle.live_writes.proofs.kinds.refused_link.Goals as goal

pub returns-in-Some-refused_ends-clause-refused : goal.returns-in-Some-refused_ends-clause-refused
returns-in-Some-refused_ends-clause-refused g c =
    λ s m tag t i. skip _ _ _ (sym c.in_default.is ∙ c.too_long.ensures) (ends_stop s c.args.key.now.from c.args.key.now.to _ _ (c.in-Some-refused_ends.ensures s _ _ t i))

pub returns-in-Some-wrong_source-clause-refused : goal.returns-in-Some-wrong_source-clause-refused
returns-in-Some-wrong_source-clause-refused g c =
    λ s m tag t i.
    skip _ _ _ (sym c.in_default.is ∙ c.too_long.ensures)
    (ends_skip s c.args.key.now.from c.args.key.now.to _ _ (sym c.in_default-refused_ends.is ∙ c.refused_ends.ensures s _ _ t i) (stop _ _ _ (c.in-Some-wrong_source.ensures s _ i)))

pub returns-in-Some-wrong_target-clause-refused : goal.returns-in-Some-wrong_target-clause-refused
returns-in-Some-wrong_target-clause-refused g c =
    λ s m tag t i.
    skip _ _ _ (sym c.in_default.is ∙ c.too_long.ensures)
    (ends_skip s c.args.key.now.from c.args.key.now.to _ _ (sym c.in_default-refused_ends.is ∙ c.refused_ends.ensures s _ _ t i)
    (skip _ _ _ (sym c.in_default-wrong_source.is ∙ c.wrong_source.ensures s _ i) (stop _ _ _ (c.in-Some-wrong_target.ensures s _ i))))

pub returns-in-Some-edge_taken-clause-refused : goal.returns-in-Some-edge_taken-clause-refused
returns-in-Some-edge_taken-clause-refused g c =
    λ s m tag t i.
    skip _ _ _ (sym c.in_default.is ∙ c.too_long.ensures)
    (ends_skip s c.args.key.now.from c.args.key.now.to _ _ (sym c.in_default-refused_ends.is ∙ c.refused_ends.ensures s _ _ t i)
    (skip _ _ _ (sym c.in_default-wrong_source.is ∙ c.wrong_source.ensures s _ i)
    (skip _ _ _ (sym c.in_default-wrong_target.is ∙ c.wrong_target.ensures s _ i) (stop _ _ _ (c.in-Some-edge_taken.ensures s _ _ i)))))

pub returns-clause-refused : goal.returns-clause-refused
returns-clause-refused g c =
    λ s m tag t i.
    let free = sym c.in_default-edge_taken.is ∙ c.edge_taken.ensures s _ _ i in
    skip _ _ _ (sym c.in_default.is ∙ c.too_long.ensures)
    (ends_skip s c.args.key.now.from c.args.key.now.to _ _ (sym c.in_default-refused_ends.is ∙ c.refused_ends.ensures s _ _ t i)
    (skip _ _ _ (sym c.in_default-wrong_source.is ∙ c.wrong_source.ensures s _ i)
    (skip _ _ _ (sym c.in_default-wrong_target.is ∙ c.wrong_target.ensures s _ i)
    (skip _ _ _ free
    (only _ _ (c.full.ensures s m (Link tag c.args.key.now.edge c.args.key.now.from c.args.key.now.to c.args.size) t
    (link_owed s m c.args.key.now.edge c.args.key.now.from c.args.key.now.to c.args.size tag t.keeps (edge_free s c.args.key.now (sym free)))))))))
