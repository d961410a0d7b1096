use Rattle.std.proofs.Common.{◌∙◌, ap, sym, List}
use Rattle.delf_model.specs.State.{JobRow, job_row}
use Rattle.job_table.specs.Table.{Table}
use Rattle.job_table.specs.Parts.{row_of}
use Rattle.job_table.proofs.Lefts.{status_row}
use Rattle.job_table.proofs.Allowed.{purge_is}
use Rattle.job_table.proofs.table.JobTable.may_purge.Goals as goal

pub returns-in-Some : goal.returns-in-Some
returns-in-Some c =
    λ s h w.
    let jobs = ap (λ (t : Table). t.jobs) c.self.view_is ∙ h.jobs in
    c.can_purge.ensures s h w (status_row s c.self.inside.jobs.list c.args.job (row_of c.in-Some.row) jobs c.in-Some.ensures)
    ∙ purge_is s c.args.moment c.args.job (row_of c.in-Some.row)
    (sym (c.in-Some.ensures ∙ ap (λ (l : List JobRow). job_row l c.args.job) jobs))
