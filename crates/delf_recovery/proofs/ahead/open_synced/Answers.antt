use Rattle.std.proofs.Common.{sym, subst}
use Rattle.delf_disk.specs.Areas.{Areas}
use Rattle.delf_disk.specs.Moments.{Leaves}
use Rattle.delf_disk.proofs.Moments.{leaves_started}
use Rattle.store_laws.specs.Stores.{StandBut}
use Rattle.store_laws.specs.Moves.{RestIn}
use Rattle.delf_recovery.specs.Opening.{StaysBad}
use Rattle.delf_recovery.proofs.Longer.{keeps_same, stays_bad, as_read}
use Rattle.delf_recovery.proofs.ahead.open_synced.Goals as goal

pub returns-in-Err-clause-crash : goal.returns-in-Err-clause-crash
returns-in-Err-clause-crash g c = λ plain h e but.
    leaves_started c.args.disk (StandBut c.args.rules h e) (λ x left. g.met.D.Disk.only_now c.args.disk x plain left) (λ x image. subst (StandBut c.args.rules h e) (sym (c.requires.only plain x image)) but)

pub returns-in-Err-clause-bad_crash : goal.returns-in-Err-clause-bad_crash
returns-in-Err-clause-bad_crash g c = λ plain it at place.
    leaves_started c.args.disk (StaysBad c.args.rules it at (g.D.Disk.seen c.args.disk)) (λ x left. g.met.D.Disk.only_now c.args.disk x plain left)
    (λ x image. stays_bad c.args.rules (g.D.Disk.seen c.args.disk) x it at (keeps_same (g.D.Disk.seen c.args.disk) x (c.requires.only plain x image)) place)

pub returns-in-Err-clause-stays : goal.returns-in-Err-clause-stays
returns-in-Err-clause-stays g c = λ plain x image. keeps_same (g.D.Disk.seen c.args.disk) x (c.requires.only plain x image)

pub returns-in-Ok-open_parts-clause-opened : goal.returns-in-Ok-open_parts-clause-opened
returns-in-Ok-open_parts-clause-opened g c = λ plain h e but.
    let opened = c.in-Ok-open_parts.ensures.opened plain h e but in (
      opened.0,
      subst (λ (x : g.row.D.Denot). RestIn c.args.rules h e (g.D.Disk.may_leave x)) (sym c.into_disk.ensures) opened.1,
    )

pub returns-in-Ok-open_parts-clause-crash : goal.returns-in-Ok-open_parts-clause-crash
returns-in-Ok-open_parts-clause-crash g c = λ plain h e but.
    subst (λ (x : g.row.D.Denot). Leaves g.D.Disk.moment g.D.Disk.may_leave g.D.Disk.left_since (StandBut c.args.rules h e) c.args.disk x)
    (sym c.into_disk.ensures) (c.open_parts.ensures.crash plain h e but)

pub returns-in-Ok-open_parts-clause-bad_crash : goal.returns-in-Ok-open_parts-clause-bad_crash
returns-in-Ok-open_parts-clause-bad_crash g c = λ plain it at place. absurd (c.in-Ok-open_parts.ensures.well plain it at place)

pub returns-in-Err-open_parts-clause-crash : goal.returns-in-Err-open_parts-clause-crash
returns-in-Err-open_parts-clause-crash g c = λ plain h e but.
    subst (λ (x : g.row.D.Denot). Leaves g.D.Disk.moment g.D.Disk.may_leave g.D.Disk.left_since (StandBut c.args.rules h e) c.args.disk x)
    (sym c.into_disk-in-Err-open_parts.ensures) (c.open_parts.ensures.crash plain h e but)

pub returns-in-Err-open_parts-clause-bad_crash : goal.returns-in-Err-open_parts-clause-bad_crash
returns-in-Err-open_parts-clause-bad_crash g c = λ plain it at place.
    subst (λ (x : g.row.D.Denot). Leaves g.D.Disk.moment g.D.Disk.may_leave g.D.Disk.left_since (StaysBad c.args.rules it at (g.D.Disk.seen c.args.disk)) c.args.disk x)
    (sym c.into_disk-in-Err-open_parts.ensures) (c.open_parts.ensures.bad_crash plain it at place)

pub returns-in-Err-open_parts-clause-stays : goal.returns-in-Err-open_parts-clause-stays
returns-in-Err-open_parts-clause-stays g c = λ plain.
    as_read c.args.rules (g.D.Disk.seen c.args.disk) g.D.Disk.may_leave c.into_disk-in-Err-open_parts.result c.in-Err-open_parts.fault (c.in-Err-open_parts.ensures.bad plain)
    (λ reading x image. c.in-Err-open_parts.ensures.longer reading plain x (subst (λ (d : g.row.D.Denot). g.D.Disk.may_leave d x) c.into_disk-in-Err-open_parts.ensures image))
