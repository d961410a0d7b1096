use Rattle.std.proofs.Common.{◌∙◌, ap, sym, List}
use Rattle.delf_model.specs.State.{JobRow, job_row}
use Rattle.job_table.specs.Table.{Table}
use Rattle.job_table.specs.Parts.{row_of}
use Rattle.job_table.proofs.Allowed.{restore_is}
use Rattle.job_table.proofs.table.JobTable.may_restore.Goals as goal

pub returns-in-Some : goal.returns-in-Some
returns-in-Some c =
    λ s tag h w.
    let jobs = ap (λ (t : Table). t.jobs) c.self.view_is ∙ h.jobs in
    c.can_restore.ensures s h w
    ∙ restore_is s c.args.moment c.args.job tag (row_of c.in-Some.row) h.keeps
    (sym (c.in-Some.ensures ∙ ap (λ (l : List JobRow). job_row l c.args.job) jobs))
