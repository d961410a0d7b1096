use Rattle.std.proofs.Common.{sym, ◌∙◌, ◌+◌, ◌*◌, ◌≡◌, arith}
use Rattle.delf_model.specs.declared.entry.What.TheVariants.{Restore}
use Rattle.delf_model.specs.Step.{step}
use Rattle.delf_model.specs.Room.{owed}
use Rattle.live_writes.proofs.InOrder.{stop, skip, only}
use Rattle.live_writes.proofs.Undoing.{row_of_name, job_is_there, pending_now, none_pending_now, not_restored_yet, idle_of, counted_of, purged_of, over_by_purge, not_over, restored_owed, handled_of_table}
use Rattle.live_writes.proofs.restores.refused_restore.Goals as goal

pub returns-then-owned-gt0 : goal.returns-then-owned-gt0
returns-then-owned-gt0 c =
    λ s tag t r named.
    skip _ _ _ (job_is_there s c.args.name c.args.job named)
    (stop _ _ _ (pending_now s c.args.job c.owned-owned.result (c.owned-owned.ensures s t) c.if-owned-gt0.true))

pub returns-in_default-status : goal.returns-in_default-status
returns-in_default-status c =
    λ s tag t r named.
    let row = row_of_name s c.args.name c.args.job named in
    let unrestored = sym c.in_default.is ∙ c.restored_at.ensures s t in
    let idle = idle_of s c.args.job c.owned-owned.result row.0 row.1 (c.owned-owned.ensures s t) c.if-owned-gt0.false unrestored in
    skip _ _ _ (job_is_there s c.args.name c.args.job named)
    (skip _ _ _ (none_pending_now s c.args.job c.owned-owned.result (c.owned-owned.ensures s t) c.if-owned-gt0.false)
    (skip _ _ _ (not_restored_yet s c.args.job unrestored)
    (stop _ _ _ (over_by_purge s c.args.job c.args.moment c.window_end-last.result row.0 row.1 (c.window_end-last.ensures s t r)
    (purged_of s c.args.name c.args.job row.0 c.status.result named idle (c.status.ensures s t) c.in_default-status.not-Done)))))

pub returns : goal.returns
returns c =
    λ s tag t r named.
    let row = row_of_name s c.args.name c.args.job named in
    let unrestored = sym c.in_default.is ∙ c.restored_at.ensures s t in
    let idle = idle_of s c.args.job c.owned-owned.result row.0 row.1 (c.owned-owned.ensures s t) c.if-owned-gt0.false unrestored in
    let counted = counted_of s c.args.name c.args.job row.0 c.in-Done.erased c.in-Done.cut c.in-Done.last named idle (c.in-Done.ensures s t) in
    let handled = handled_of_table s c.args.jobs.now c.args.rules.now c.requires t in
    let more = restored_owed s c.args.moment c.args.job tag row.0 t.keeps idle handled in
    let objects = counted.objects in
    let edges = counted.edges in
    let owes : owed (step s (record { moment = c.args.moment; what = Restore tag c.args.job })) ≡ owed s + (4 * c.from.result + 2 * c.from-2.result) = omega arith in
    skip _ _ _ (job_is_there s c.args.name c.args.job named)
    (skip _ _ _ (none_pending_now s c.args.job c.owned-owned.result (c.owned-owned.ensures s t) c.if-owned-gt0.false)
    (skip _ _ _ (not_restored_yet s c.args.job unrestored)
    (skip _ _ _ (not_over s c.args.job c.args.moment c.window_end-last.result row.0 row.1 (c.window_end-last.ensures s t r) c.if-moment-last.false counted.unpurged)
    (only _ _ (c.full.ensures s c.args.moment (Restore tag c.args.job) t owes)))))
