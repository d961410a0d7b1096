use Rattle.std.proofs.Common.{◌∙◌, ap, arith}
use Rattle.std.specs.Prelude.{slice_get}
use Rattle.job_table.specs.Table.{Table}
use Rattle.job_table.specs.Owning.{has_row}
use Rattle.job_table.proofs.FreeSteps.{find_here, find_past, find_over, within}
use Rattle.job_table.proofs.Owning.{row_told}
use Rattle.job_table.proofs.table.JobTable.first_owned.Goals as goal

pub returns-in-None-clause-value : goal.returns-in-None-clause-value
returns-in-None-clause-value c =
    find_over (has_row c.args.self.now.jobs) c.args.self.now.owners c.pairs.i c.pairs.invariant
    (c.in-None.ensures.value ∙ ap (λ (t : Table). slice_get t.owners c.pairs.i) c.self.view_is)

pub returns-then-is_some-clause-value : goal.returns-then-is_some-clause-value
returns-then-is_some-clause-value c =
    find_here (has_row c.args.self.now.jobs) c.args.self.now.owners c.pairs.i c.in-Some.pair c.pairs.invariant
    (c.in-Some.ensures.value ∙ ap (λ (t : Table). slice_get t.owners c.pairs.i) c.self.view_is)
    (row_told c.row.result _ _ c.in-Some.pair c.is_some.result c.row.ensures (ap (λ (t : Table). t.jobs) c.self.view_is) c.is_some.ensures ∙ c.if-is_some.true)

pub overflow_add-i : goal.overflow_add-i
overflow_add-i c =
    let l = within c.self.inside.owners.list c.pairs.i c.in-Some.pair c.in-Some.ensures.value in
    omega (arith, l, c.in-Some.ensures.fits)

pub pairs-smaller : goal.pairs-smaller
pairs-smaller c =
    let l = within c.args.self.now.owners c.pairs.i c.in-Some.pair (c.in-Some.ensures.value ∙ ap (λ (t : Table). slice_get t.owners c.pairs.i) c.self.view_is) in
    omega (arith, l)

pub pairs-preserved : goal.pairs-preserved
pairs-preserved c =
    find_past (has_row c.args.self.now.jobs) c.args.self.now.owners c.pairs.i c.in-Some.pair c.pairs.invariant
    (c.in-Some.ensures.value ∙ ap (λ (t : Table). slice_get t.owners c.pairs.i) c.self.view_is)
    (row_told c.row.result _ _ c.in-Some.pair c.is_some.result c.row.ensures (ap (λ (t : Table). t.jobs) c.self.view_is) c.is_some.ensures ∙ c.if-is_some.false)
