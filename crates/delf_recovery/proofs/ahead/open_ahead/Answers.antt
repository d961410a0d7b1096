use Rattle.std.proofs.Common.{◌∙◌, ◌⊎◌, inl, inr, sym, subst}
use Rattle.delf_disk.specs.Areas.{Areas}
use Rattle.delf_disk.proofs.Flags.{stays_plain}
use Rattle.delf_disk.proofs.Moments.{leaves_started, leaves_kept, leaves_widened}
use Rattle.store_laws.specs.Stores.{StandBut}
use Rattle.opening_laws.specs.Places.{BadPlace}
use Rattle.delf_book.proofs.Writes.{leaves_joined}
use Rattle.delf_recovery.specs.Opening.{StandsNow, IsBadAt, StaysBad, StaysAsRead}
use Rattle.delf_recovery.proofs.Longer.{want_leaves}
use Rattle.delf_recovery.proofs.ahead.open_ahead.Goals as goal

pub returns-in-Err-clause-crash : goal.returns-in-Err-clause-crash
returns-in-Err-clause-crash g c = λ plain h e but.
    leaves_kept
    (leaves_started c.args.disk (λ (x : Areas). g.D.Disk.may_leave c.args.disk x ⊎ StandBut c.args.rules h e x) (λ x left. g.met.D.Disk.only_now c.args.disk x plain left) (λ x image. inl image))
    (c.sync.ensures.images plain)

pub returns-in-Err-clause-bad_crash : goal.returns-in-Err-clause-bad_crash
returns-in-Err-clause-bad_crash g c = λ plain it at place.
    leaves_kept
    (leaves_started c.args.disk (λ (x : Areas). g.D.Disk.may_leave c.args.disk x ⊎ StaysBad c.args.rules it at (g.D.Disk.seen c.args.disk) x)
    (λ x left. g.met.D.Disk.only_now c.args.disk x plain left) (λ x image. inl image))
    (c.sync.ensures.images plain)

pub returns-in-Ok-open_synced-clause-found : goal.returns-in-Ok-open_synced-clause-found
returns-in-Ok-open_synced-clause-found g c = λ plain.
    subst (λ (x : Areas). StandsNow c.args.rules c.in-Ok-open_synced.it.0.fold.history x) (c.sync.ensures.seen plain)
    (c.in-Ok-open_synced.ensures.found (stays_plain c.sync.ensures.kind plain))

pub returns-in-Ok-open_synced-clause-opened : goal.returns-in-Ok-open_synced-clause-opened
returns-in-Ok-open_synced-clause-opened g c = λ plain h e but.
    c.in-Ok-open_synced.ensures.opened (stays_plain c.sync.ensures.kind plain) h e (subst (StandBut c.args.rules h e) (sym (c.sync.ensures.seen plain)) but)

pub returns-in-Ok-open_synced-clause-well : goal.returns-in-Ok-open_synced-clause-well
returns-in-Ok-open_synced-clause-well g c = λ plain it at place.
    c.in-Ok-open_synced.ensures.well (stays_plain c.sync.ensures.kind plain) it at (subst (λ (x : Areas). BadPlace c.args.rules x it at) (sym (c.sync.ensures.seen plain)) place)

pub returns-in-Ok-open_synced-clause-crash : goal.returns-in-Ok-open_synced-clause-crash
returns-in-Ok-open_synced-clause-crash g c = λ plain h e but.
    let before = leaves_kept
    (leaves_started c.args.disk (λ (x : Areas). g.D.Disk.may_leave c.args.disk x ⊎ StandBut c.args.rules h e x) (λ x left. g.met.D.Disk.only_now c.args.disk x plain left) (λ x image. inl image))
    (c.sync.ensures.images plain) in
    leaves_joined before (leaves_widened
    (c.in-Ok-open_synced.ensures.crash (stays_plain c.sync.ensures.kind plain) h e (subst (StandBut c.args.rules h e) (sym (c.sync.ensures.seen plain)) but))
    (λ x stood. inr stood))

pub returns-in-Ok-open_synced-clause-bad_crash : goal.returns-in-Ok-open_synced-clause-bad_crash
returns-in-Ok-open_synced-clause-bad_crash g c = λ plain it at place. absurd (returns-in-Ok-open_synced-clause-well g c plain it at place)

pub returns-in-Err-open_synced-clause-bad : goal.returns-in-Err-open_synced-clause-bad
returns-in-Err-open_synced-clause-bad g c = λ plain.
    subst (λ (x : Areas). IsBadAt c.args.rules x c.in-Err-open_synced.it.0) (c.sync.ensures.seen plain) (c.in-Err-open_synced.ensures.bad (stays_plain c.sync.ensures.kind plain))

pub returns-in-Err-open_synced-clause-told : goal.returns-in-Err-open_synced-clause-told
returns-in-Err-open_synced-clause-told g c = λ plain it at place.
    c.in-Err-open_synced.ensures.told (stays_plain c.sync.ensures.kind plain) it at (subst (λ (x : Areas). BadPlace c.args.rules x it at) (sym (c.sync.ensures.seen plain)) place)

pub returns-in-Err-open_synced-clause-never : goal.returns-in-Err-open_synced-clause-never
returns-in-Err-open_synced-clause-never g c = λ plain h e but.
    c.in-Err-open_synced.ensures.never (stays_plain c.sync.ensures.kind plain) h e (subst (StandBut c.args.rules h e) (sym (c.sync.ensures.seen plain)) but)

pub returns-in-Err-open_synced-clause-crash : goal.returns-in-Err-open_synced-clause-crash
returns-in-Err-open_synced-clause-crash g c = λ plain h e but.
    let before = leaves_kept
    (leaves_started c.args.disk (λ (x : Areas). g.D.Disk.may_leave c.args.disk x ⊎ StandBut c.args.rules h e x) (λ x left. g.met.D.Disk.only_now c.args.disk x plain left) (λ x image. inl image))
    (c.sync.ensures.images plain) in
    leaves_joined before (leaves_widened
    (c.in-Err-open_synced.ensures.crash (stays_plain c.sync.ensures.kind plain) h e (subst (StandBut c.args.rules h e) (sym (c.sync.ensures.seen plain)) but))
    (λ x stood. inr stood))

pub returns-in-Err-open_synced-clause-bad_crash : goal.returns-in-Err-open_synced-clause-bad_crash
returns-in-Err-open_synced-clause-bad_crash g c = λ plain it at place.
    let before = leaves_kept
    (leaves_started c.args.disk (λ (x : Areas). g.D.Disk.may_leave c.args.disk x ⊎ StaysBad c.args.rules it at (g.D.Disk.seen c.args.disk) x)
    (λ x left. g.met.D.Disk.only_now c.args.disk x plain left) (λ x image. inl image))
    (c.sync.ensures.images plain) in
    leaves_joined before (leaves_widened
    (c.in-Err-open_synced.ensures.bad_crash (stays_plain c.sync.ensures.kind plain) it at (subst (λ (x : Areas). BadPlace c.args.rules x it at) (sym (c.sync.ensures.seen plain)) place))
    (λ x stood. inr (subst (λ (y : Areas). StaysBad c.args.rules it at y x) (c.sync.ensures.seen plain) stood)))

pub returns-in-Err-open_synced-clause-stays : goal.returns-in-Err-open_synced-clause-stays
returns-in-Err-open_synced-clause-stays g c = λ plain.
    subst (λ (x : Areas). StaysAsRead c.args.rules x g.D.Disk.may_leave c.in-Err-open_synced.it.1 c.in-Err-open_synced.it.0) (c.sync.ensures.seen plain)
    (c.in-Err-open_synced.ensures.stays (stays_plain c.sync.ensures.kind plain))

pub returns-in-Err-open_synced-clause-wants : goal.returns-in-Err-open_synced-clause-wants
returns-in-Err-open_synced-clause-wants g c = λ plain h e but.
    want_leaves g.D.Disk.may_leave (StandBut c.args.rules h e) c.in-Err-open_synced.it.1 c.in-Err-open_synced.it.0
    (λ reading x image. (c.in-Err-open_synced.ensures.crash (stays_plain c.sync.ensures.kind plain) h e (subst (StandBut c.args.rules h e) (sym (c.sync.ensures.seen plain)) but)).now x image)

pub returns-in-Err-open_synced-clause-unwritten : goal.returns-in-Err-open_synced-clause-unwritten
returns-in-Err-open_synced-clause-unwritten g c = λ of plain. c.in-Err-open_synced.ensures.unwritten of (stays_plain c.sync.ensures.kind plain) ∙ c.sync.ensures.seen plain

pub returns-in-Err-open_synced-clause-unchanged : goal.returns-in-Err-open_synced-clause-unchanged
returns-in-Err-open_synced-clause-unchanged g c = λ of plain x image.
    subst (g.D.Disk.may_leave c.args.disk) (sym (c.in-Err-open_synced.ensures.unchanged of (stays_plain c.sync.ensures.kind plain) x image ∙ c.sync.ensures.seen plain))
    (g.met.D.Disk.reads_as_image c.args.disk plain)
