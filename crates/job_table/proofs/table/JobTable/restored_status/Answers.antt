use Rattle.std.proofs.Common.{◌∙◌, ap, sym}
use Rattle.std.specs.Prelude.{count_by}
use Rattle.job_table.specs.Table.{Table}
use Rattle.job_table.specs.Items.{is_unhandled_of}
use Rattle.delf_model.specs.Report.{is_put_of, is_listed_of}
use Rattle.job_table.proofs.Lefts.{restoring_now, restored_now}
use Rattle.job_table.proofs.table.JobTable.restored_status.Goals as goal

pub returns-then-left-gt0 : goal.returns-then-left-gt0
returns-then-left-gt0 c =
    λ s h e. restoring_now _ c.unhandled-left.result _
    (c.unhandled-left.ensures ∙ ap (λ (t : Table). count_by (is_unhandled_of c.args.row.now.start) t.items) c.self.view_is ∙ ap (count_by (is_unhandled_of c.args.row.now.start)) h.items ∙ sym e)
    c.if-left-gt0.true

pub returns : goal.returns
returns c =
    λ s h e. restored_now _ c.unhandled-left.result c.put.result c.listed.result _ _
    (c.unhandled-left.ensures ∙ ap (λ (t : Table). count_by (is_unhandled_of c.args.row.now.start) t.items) c.self.view_is ∙ ap (count_by (is_unhandled_of c.args.row.now.start)) h.items ∙ sym e)
    c.if-left-gt0.false
    (c.put.ensures ∙ ap (λ (t : Table). count_by (is_put_of c.args.row.now.start) t.items) c.self.view_is ∙ ap (count_by (is_put_of c.args.row.now.start)) h.items)
    (c.listed.ensures ∙ ap (λ (t : Table). count_by (is_listed_of c.args.row.now.start) t.items) c.self.view_is ∙ ap (count_by (is_listed_of c.args.row.now.start)) h.items)
