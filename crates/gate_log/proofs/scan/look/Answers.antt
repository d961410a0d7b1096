-- What the two reads tell of the gate and of the six bytes behind it.
use Rattle.std.proofs.Common.{◌+◌, take, drop, refl, ◌∙◌, ap, arith, length-drop}
use Rattle.delf_disk.specs.Areas.{Areas, area_of}
use Rattle.delf_disk.specs.Images.{Same}
use Rattle.delf_disk.proofs.Flags.{stays_plain}
use Rattle.delf_disk.proofs.Moments.{started, kept}
use Rattle.gate_log.proofs.Opened.{gate_read, open_at, broken_at, cut_off}
use Rattle.gate_log.proofs.scan.look.Goals as goal

pub returns-then-room-lt6-clause-looked : goal.returns-then-room-lt6-clause-looked
returns-then-room-lt6-clause-looked g c = λ plain.
    let a = c.args in
    let bytes = area_of a.area (g.D.Disk.seen a.disk.now) in
    let len = c.requires.len plain in
    let opened = gate_read bytes _ a.at (c.in_ok-read.ensures.bytes plain) (omega (arith, len, c.requires.within)) c.if-gate.false in
    (refl, cut_off bytes a.at opened (omega (arith, length-drop (a.at + 1) bytes, len, c.if-room-lt6.true)))

pub returns-in-None-clause-looked : goal.returns-in-None-clause-looked
returns-in-None-clause-looked g c = λ plain.
    let a = c.args in
    let bytes = area_of a.area (g.D.Disk.seen a.disk.now) in
    let len = c.requires.len plain in
    let opened = gate_read bytes _ a.at (c.in_ok-read.ensures.bytes plain) (omega (arith, len, c.requires.within)) c.if-gate.false in
    let read = c.in_ok-read-2.ensures.bytes (stays_plain c.read.ensures.kind plain) ∙ ap (λ (x : Areas). take 6 (drop (a.at + 1) (area_of a.area x))) (c.read.ensures.seen plain) in
    (refl, broken_at bytes c.read-2.new.buf a.at _ opened (omega (arith, length-drop (a.at + 1) bytes, len, c.if-room-lt6.false)) read c.in-None.ensures.none)

pub returns-in-Some-clause-looked : goal.returns-in-Some-clause-looked
returns-in-Some-clause-looked g c = λ plain.
    let a = c.args in
    let bytes = area_of a.area (g.D.Disk.seen a.disk.now) in
    let len = c.requires.len plain in
    let opened = gate_read bytes _ a.at (c.in_ok-read.ensures.bytes plain) (omega (arith, len, c.requires.within)) c.if-gate.false in
    let read = c.in_ok-read-2.ensures.bytes (stays_plain c.read.ensures.kind plain) ∙ ap (λ (x : Areas). take 6 (drop (a.at + 1) (area_of a.area x))) (c.read.ensures.seen plain) in
    open_at bytes c.read-2.new.buf a.at _ c.in-Some.lengths opened (omega (arith, length-drop (a.at + 1) bytes, len, c.if-room-lt6.false)) read c.in-Some.ensures.some

pub returns-in-Some-clause-any_moment : goal.returns-in-Some-clause-any_moment
returns-in-Some-clause-any_moment g c = λ plain.
    let at_start = started c.args.disk.now Same (λ x left. g.met.D.Disk.only_now c.args.disk.now x plain left) (λ x image. refl) in
    let first = kept at_start (c.read.ensures.images plain) in
    kept first (c.read-2.ensures.images (stays_plain c.read.ensures.kind plain))
