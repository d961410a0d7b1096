use Rattle.std.proofs.Common.{◌∙◌, ap}
use Rattle.job_table.specs.Table.{Table}
use Rattle.job_table.specs.Parts.{row_of}
use Rattle.job_table.proofs.Lefts.{status_row, status_is}
use Rattle.job_table.proofs.table.JobTable.status.Goals as goal

pub returns-in-Some-row : goal.returns-in-Some-row
returns-in-Some-row c =
    λ s h.
    c.status_of.ensures s h (status_row s c.self.inside.jobs.list c.in-Some.job (row_of c.in-Some-row.row) (ap (λ (t : Table). t.jobs) c.self.view_is ∙ h.jobs) c.in-Some-row.ensures)
    ∙ status_is s c.self.inside.jobs.list c.args.name c.in-Some.job (row_of c.in-Some-row.row) (ap (λ (t : Table). t.jobs) c.self.view_is ∙ h.jobs) c.in-Some.ensures c.in-Some-row.ensures
