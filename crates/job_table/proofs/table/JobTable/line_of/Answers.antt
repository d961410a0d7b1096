use Rattle.std.proofs.Common.{◌∙◌, ap}
use Rattle.std.specs.Prelude.{count_by}
use Rattle.job_table.specs.Table.{Table}
use Rattle.job_table.specs.Parts.{row_of}
use Rattle.delf_model.specs.Report.{is_object_of, is_edge_of}
use Rattle.job_table.proofs.Lefts.{line_is}
use Rattle.job_table.proofs.table.JobTable.line_of.Goals as goal

pub returns : goal.returns
returns c =
    λ s h e. line_is s (row_of c.args.row.now) c.erased.result c.cut.result c.status_of.result
    (c.erased.ensures ∙ ap (λ (t : Table). count_by (is_object_of c.args.row.now.start) t.items) c.self.view_is ∙ ap (count_by (is_object_of c.args.row.now.start)) h.items)
    (c.cut.ensures ∙ ap (λ (t : Table). count_by (is_edge_of c.args.row.now.start) t.items) c.self.view_is ∙ ap (count_by (is_edge_of c.args.row.now.start)) h.items)
    (c.status_of.ensures s h e)
