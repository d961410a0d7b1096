-- Each exit has one line for each disk call made so far.
use Rattle.std.proofs.Common.{[], ◌∷◌, length, sym, subst}
use Rattle.delf_disk.specs.Areas.{Areas}
use Rattle.std.proofs.lemmas.Result.{on_ok_weaker}
use Rattle.delf_disk.specs.Images.{Torn, Written}
use Rattle.delf_disk.proofs.Flags.{stays_plain}
use Rattle.delf_disk.proofs.Moments.{started, called, kept}
use Rattle.gate_log.specs.Gates.{MayOpen, Opens}
use Rattle.gate_log.proofs.Gate.{may_open_same, may_open_behind, may_open_gate, opens}
use Rattle.gate_log.proofs.commit.commit.Goals as goal

pub returns-in_err-write-clause-any_moment : goal.returns-in_err-write-clause-any_moment
returns-in_err-write-clause-any_moment g c = λ plain.
    let a = c.args in
    let only = g.met.D.Disk.only_now a.disk.now in
    let at_start = started a.disk.now (MayOpen a.area a.gate a.line.now) (λ x left. only x plain left) (λ x image. may_open_same a.area a.gate a.line.now x) in
    let behind = called at_start (c.write.ensures.images plain) (λ x after. (after.0, after.1, may_open_behind a.area a.gate a.line.now (length a.line.now) after.0 x after.2)) in
    behind

pub returns-in_err-sync-clause-any_moment : goal.returns-in_err-sync-clause-any_moment
returns-in_err-sync-clause-any_moment g c = λ plain.
    let a = c.args in
    let only = g.met.D.Disk.only_now a.disk.now in
    let at_start = started a.disk.now (MayOpen a.area a.gate a.line.now) (λ x left. only x plain left) (λ x image. may_open_same a.area a.gate a.line.now x) in
    let behind = called at_start (c.write.ensures.images plain) (λ x after. (after.0, after.1, may_open_behind a.area a.gate a.line.now (length a.line.now) after.0 x after.2)) in
    let plain_1 = stays_plain c.write.ensures.kind plain in
    let synced = kept behind (c.sync.ensures.images plain_1) in
    synced

pub returns-in_err-write-2-clause-any_moment : goal.returns-in_err-write-2-clause-any_moment
returns-in_err-write-2-clause-any_moment g c = λ plain.
    let a = c.args in
    let only = g.met.D.Disk.only_now a.disk.now in
    let at_start = started a.disk.now (MayOpen a.area a.gate a.line.now) (λ x left. only x plain left) (λ x image. may_open_same a.area a.gate a.line.now x) in
    let behind = called at_start (c.write.ensures.images plain) (λ x after. (after.0, after.1, may_open_behind a.area a.gate a.line.now (length a.line.now) after.0 x after.2)) in
    let plain_1 = stays_plain c.write.ensures.kind plain in
    let synced = kept behind (c.sync.ensures.images plain_1) in
    let plain_2 = stays_plain c.sync.ensures.kind plain_1 in
    let from = g.met.D.Disk.reads_as_image a.disk.now plain in
    let opened = called synced (c.write-2.ensures.images plain_2) (λ x after. (_, from, may_open_gate a.area a.gate a.line.now _ _ x (c.in_ok-write.ensures.written plain) (subst (λ (y : Areas). Torn a.area a.gate 1 y x) (c.in_ok-sync.ensures.stable plain_1 after.0 after.1) after.2))) in
    opened

pub returns-clause-any_moment : goal.returns-clause-any_moment
returns-clause-any_moment g c = λ plain.
    let a = c.args in
    let only = g.met.D.Disk.only_now a.disk.now in
    let at_start = started a.disk.now (MayOpen a.area a.gate a.line.now) (λ x left. only x plain left) (λ x image. may_open_same a.area a.gate a.line.now x) in
    let behind = called at_start (c.write.ensures.images plain) (λ x after. (after.0, after.1, may_open_behind a.area a.gate a.line.now (length a.line.now) after.0 x after.2)) in
    let plain_1 = stays_plain c.write.ensures.kind plain in
    let synced = kept behind (c.sync.ensures.images plain_1) in
    let plain_2 = stays_plain c.sync.ensures.kind plain_1 in
    let from = g.met.D.Disk.reads_as_image a.disk.now plain in
    let opened = called synced (c.write-2.ensures.images plain_2) (λ x after. (_, from, may_open_gate a.area a.gate a.line.now _ _ x (c.in_ok-write.ensures.written plain) (subst (λ (y : Areas). Torn a.area a.gate 1 y x) (c.in_ok-sync.ensures.stable plain_1 after.0 after.1) after.2))) in
    let plain_3 = stays_plain c.write-2.ensures.kind plain_2 in
    let ended = kept opened (c.sync-2.ensures.images plain_3) in
    ended

pub returns-clause-opens : goal.returns-clause-opens
returns-clause-opens g c = on_ok_weaker c.sync-2.result
    (λ stable plain.
    let a = c.args in
    let plain_1 = stays_plain c.write.ensures.kind plain in
    let plain_2 = stays_plain c.sync.ensures.kind plain_1 in
    let plain_3 = stays_plain c.write-2.ensures.kind plain_2 in
    let second = subst (λ (y : Areas). Written a.area a.gate (165 ∷ []) y (g.D.Disk.seen c.write-2.new.self)) (c.sync.ensures.seen plain_1) (c.in_ok-write-2.ensures.written plain_2) in
    subst (λ (y : Areas). Opens a.area a.gate a.line.now (g.D.Disk.seen a.disk.now) y) (sym (c.sync-2.ensures.seen plain_3))
    (opens a.area a.gate a.line.now _ _ _ (c.in_ok-write.ensures.written plain) second))
    c.sync-2.ensures.stable
