use Rattle.std.proofs.Common.{◌≡◌, ◌∙◌, ap, true, false, is_some}
use Rattle.std.specs.Prelude.{count_by}
use Rattle.job_table.specs.Table.{Table, owned_among}
use Rattle.job_table.specs.Parts.{row_of}
use Rattle.delf_model.specs.Report.{is_object_of, is_edge_of}
use Rattle.job_table.proofs.Lefts.{pending_case, restored_case, done_case, left_restored, left_none, is_restored_at, last_is, some_is}
use Rattle.job_table.proofs.table.JobTable.status_of.Goals as goal

pub returns-then-owned-gt0 : goal.returns-then-owned-gt0
returns-then-owned-gt0 c =
    λ s h e. pending_case c.args.row.now.purged c.owned-owned.result _ _ _ _ _ _ _ _ c.if-row.false
    (c.owned-owned.ensures ∙ ap (λ (t : Table). owned_among t.owners c.args.row.now.start) c.self.view_is ∙ h.owned c.args.row.now.start) c.if-owned-gt0.true

pub returns-in-Some : goal.returns-in-Some
returns-in-Some c =
    λ s h e.
    let r : is_some c.args.row.now.restored ≡ true = some_is c.args.row.now.restored _ c.in-Some.is in
    c.restored_status.ensures s h (left_restored s c.args.row.now.start (is_restored_at s (row_of c.args.row.now) true e r))
    ∙ restored_case c.args.row.now.purged c.owned-owned.result _ _ _ _ _ _ _ _ c.if-row.false
    (c.owned-owned.ensures ∙ ap (λ (t : Table). owned_among t.owners c.args.row.now.start) c.self.view_is ∙ h.owned c.args.row.now.start) c.if-owned-gt0.false r

pub returns-in-None : goal.returns-in-None
returns-in-None c =
    λ s h e.
    let r : is_some c.args.row.now.restored ≡ false = ap is_some c.in-None.is in
    done_case c.args.row.now.purged c.owned-owned.result _ _ _ _ _ _ _ _ c.erased.result c.cut.result c.unwrap_or.result c.if-row.false
    (c.owned-owned.ensures ∙ ap (λ (t : Table). owned_among t.owners c.args.row.now.start) c.self.view_is ∙ h.owned c.args.row.now.start) c.if-owned-gt0.false
    (left_none s c.args.row.now.start (is_restored_at s (row_of c.args.row.now) false e r)) r
    (c.erased.ensures ∙ ap (λ (t : Table). count_by (is_object_of c.args.row.now.start) t.items) c.self.view_is ∙ ap (count_by (is_object_of c.args.row.now.start)) h.items)
    (c.cut.ensures ∙ ap (λ (t : Table). count_by (is_edge_of c.args.row.now.start) t.items) c.self.view_is ∙ ap (count_by (is_edge_of c.args.row.now.start)) h.items)
    (c.unwrap_or.ensures ∙ last_is c.args.row.now.last)
