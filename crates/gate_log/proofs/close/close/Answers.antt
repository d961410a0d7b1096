use Rattle.std.proofs.Common.{sym, subst}
use Rattle.std.proofs.lemmas.Result.{on_ok_weaker}
use Rattle.delf_disk.specs.Areas.{Areas}
use Rattle.delf_disk.proofs.Flags.{stays_plain}
use Rattle.delf_disk.proofs.Moments.{started, called, kept}
use Rattle.gate_log.specs.Gates.{MayChange, Closes}
use Rattle.gate_log.proofs.Gate.{may_change, unchanged, closes}
use Rattle.gate_log.proofs.close.close.Goals as goal

pub returns-in_err-write-clause-any_moment : goal.returns-in_err-write-clause-any_moment
returns-in_err-write-clause-any_moment g c = λ plain.
    let a = c.args in
    let at_start = started a.disk.now (MayChange a.area a.gate) (λ x left. g.met.D.Disk.only_now a.disk.now x plain left) (λ x image. unchanged a.area a.gate x) in
    called at_start (c.write.ensures.images plain) (λ x after. (after.0, after.1, may_change a.area a.gate after.0 x after.2))

pub returns-clause-any_moment : goal.returns-clause-any_moment
returns-clause-any_moment g c = λ plain.
    let a = c.args in
    let at_start = started a.disk.now (MayChange a.area a.gate) (λ x left. g.met.D.Disk.only_now a.disk.now x plain left) (λ x image. unchanged a.area a.gate x) in
    let written = called at_start (c.write.ensures.images plain) (λ x after. (after.0, after.1, may_change a.area a.gate after.0 x after.2)) in
    kept written (c.sync.ensures.images (stays_plain c.write.ensures.kind plain))

pub returns-clause-closes : goal.returns-clause-closes
returns-clause-closes g c = on_ok_weaker c.sync.result
    (λ stable plain.
    let a = c.args in
    subst (λ (y : Areas). Closes a.area a.gate (g.D.Disk.seen a.disk.now) y) (sym (c.sync.ensures.seen (stays_plain c.write.ensures.kind plain)))
    (closes a.area a.gate _ _ (c.in_ok-write.ensures.written plain)))
    c.sync.ensures.stable
