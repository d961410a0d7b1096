use Rattle.std.proofs.Common.{sym, ◌∙◌}
use Rattle.job_table.proofs.Calls.{edge_there}
use Rattle.live_writes.proofs.InOrder.{stop, skip, only, ends_stop, ends_skip, taken_where, taken_nowhere}
use Rattle.live_writes.proofs.kinds.refused_unlink.Goals as goal

pub returns-in-Some : goal.returns-in-Some
returns-in-Some g c = λ s m tag t i. ends_stop s c.args.key.now.from c.args.key.now.to _ _ (c.in-Some.ensures s _ _ t i)

pub returns-in-Some-no_edge : goal.returns-in-Some-no_edge
returns-in-Some-no_edge g c =
    λ s m tag t i. ends_skip s c.args.key.now.from c.args.key.now.to _ _ (sym c.in_default.is ∙ c.refused_ends.ensures s _ _ t i) (stop _ _ _ (c.in-Some-no_edge.ensures s _ _ i))

pub returns-then-starts_job : goal.returns-then-starts_job
returns-then-starts_job g c =
    λ s m tag t i.
    let there = sym c.in_default-no_edge.is ∙ c.no_edge.ensures s _ _ i in
    ends_skip s c.args.key.now.from c.args.key.now.to _ _ (sym c.in_default.is ∙ c.refused_ends.ensures s _ _ t i)
    (skip _ _ _ there
    (only _ _ (taken_where _ s c.args.name _ (sym c.if-starts_job.true ∙ c.starts_job.ensures s c.args.name i (edge_there s c.args.key.now (sym there)))
    (c.job_taken.ensures s t))))

pub returns : goal.returns
returns g c =
    λ s m tag t i.
    let there = sym c.in_default-no_edge.is ∙ c.no_edge.ensures s _ _ i in
    ends_skip s c.args.key.now.from c.args.key.now.to _ _ (sym c.in_default.is ∙ c.refused_ends.ensures s _ _ t i)
    (skip _ _ _ there
    (only _ _ (taken_nowhere _ s c.args.name (sym c.if-starts_job.false ∙ c.starts_job.ensures s c.args.name i (edge_there s c.args.key.now (sym there))))))
