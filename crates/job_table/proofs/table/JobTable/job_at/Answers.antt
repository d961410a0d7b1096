use Rattle.std.proofs.Common.{◌∙◌, ap, Some}
use Rattle.delf_model.specs.declared.call.JobLine.{JobLine}
use Rattle.job_table.specs.Table.{Table}
use Rattle.job_table.specs.Parts.{row_of}
use Rattle.job_table.proofs.Lefts.{line_row, line_at_is}
use Rattle.job_table.proofs.table.JobTable.job_at.Goals as goal

pub returns-in-Some : goal.returns-in-Some
returns-in-Some c =
    λ s h.
    ap (λ (v : JobLine). Some v) (c.line_of.ensures s h (line_row s c.self.inside.jobs.list c.args.i (row_of c.in-Some.row) (ap (λ (t : Table). t.jobs) c.self.view_is ∙ h.jobs) h.keeps.starts c.in-Some.ensures))
    ∙ line_at_is s c.self.inside.jobs.list c.args.i (row_of c.in-Some.row) (ap (λ (t : Table). t.jobs) c.self.view_is ∙ h.jobs) c.in-Some.ensures
