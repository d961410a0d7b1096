use Rattle.std.proofs.Common.{vec_len, vec_capacity, refl, sym, subst}
use Rattle.delf_disk.specs.Plain.{Plain}
use Rattle.delf_disk.proofs.Flags.{was_plain}
use Rattle.delf_model.specs.Step.{after}
use Rattle.store_laws.specs.Stores.{Settled}
use Rattle.delf_book.specs.Books.{Booked, LeavesAlone}
use Rattle.delf_book.specs.Keeping.{payloads_in}
use Rattle.delf_book.proofs.Fallen.{fell_alone}
use Rattle.delf_book.proofs.Held.{rest_as_read}
use Rattle.delf_book.proofs.Payloads.{rests_with, keeps_still, keeps_fallen, opening_still, opening_fell}
use Rattle.delf_book.proofs.Plainly.{keeps_same, room_lists}
use Rattle.delf_book.proofs.Sizes.{journal_in, vault_in}
use Rattle.delf_book.specs.Claims.{room_for}
use Rattle.delf_book.proofs.book.Book.settle.Goals as goal

pub settle_areas-requires-clause-journal_stands : goal.settle_areas-requires-clause-journal_stands
settle_areas-requires-clause-journal_stands g c = λ plain.
    let l = c.self.inside.ledger in
    let kept = c.self.invariant.0 c.if-self.false in
    journal_in l.rules l.history c.self.inside.logs.journal c.self.inside.logs.vault (g.R.Disk.may_leave c.self.inside.rig) kept.logs
    (payloads_in (after l.rules l.history) (g.R.Disk.seen c.self.inside.rig)) (kept.areas plain).rests

pub settle_areas-requires-clause-vault_stands : goal.settle_areas-requires-clause-vault_stands
settle_areas-requires-clause-vault_stands g c = λ plain.
    let l = c.self.inside.ledger in
    let kept = c.self.invariant.0 c.if-self.false in
    vault_in l.rules l.history c.self.inside.logs.journal c.self.inside.logs.vault (g.R.Disk.may_leave c.self.inside.rig) kept.logs
    (payloads_in (after l.rules l.history) (g.R.Disk.seen c.self.inside.rig)) (kept.areas plain).rests

pub returns-in-Ok-clause-crash : goal.returns-in-Ok-clause-crash
returns-in-Ok-clause-crash g c = λ plain up.
    let here : Plain (g.R.Disk.told c.self.inside.rig) (g.R.Disk.honest c.self.inside.rig) =
    subst (λ (b : Booked g.row.G.Denot g.row.R.Denot). Plain (g.R.Disk.told b.rig) (g.R.Disk.honest b.rig)) (sym c.self.view_is) plain in
    let l = c.self.inside.ledger in
    let e = payloads_in (after l.rules l.history) (g.R.Disk.seen c.self.inside.rested.value) in
    let rests = rests_with l.rules l.history e c.self.inside.down (g.R.Disk.seen c.self.inside.rig) (g.R.Disk.seen c.self.inside.opened.value) c.if-self.false (c.self.invariant.3 here)
    (g.R.Disk.may_leave c.self.inside.rig) ((c.self.invariant.0 c.if-self.false).areas here).rests in
    subst (λ (b : Booked g.row.G.Denot g.row.R.Denot). LeavesAlone g.R.Disk.moment g.R.Disk.may_leave g.R.Disk.left_since b c.settle_areas.new.disk) c.self.view_is (c.settle_areas.ensures.crash here l.rules l.history e rests)

pub returns-in-Err-clause-crash : goal.returns-in-Err-clause-crash
returns-in-Err-clause-crash g c = λ plain up.
    let here : Plain (g.R.Disk.told c.self.inside.rig) (g.R.Disk.honest c.self.inside.rig) =
    subst (λ (b : Booked g.row.G.Denot g.row.R.Denot). Plain (g.R.Disk.told b.rig) (g.R.Disk.honest b.rig)) (sym c.self.view_is) plain in
    let l = c.self.inside.ledger in
    let e = payloads_in (after l.rules l.history) (g.R.Disk.seen c.self.inside.rested.value) in
    let rests = rests_with l.rules l.history e c.self.inside.down (g.R.Disk.seen c.self.inside.rig) (g.R.Disk.seen c.self.inside.opened.value) c.if-self.false (c.self.invariant.3 here)
    (g.R.Disk.may_leave c.self.inside.rig) ((c.self.invariant.0 c.if-self.false).areas here).rests in
    subst (λ (b : Booked g.row.G.Denot g.row.R.Denot). LeavesAlone g.R.Disk.moment g.R.Disk.may_leave g.R.Disk.left_since b c.settle_areas.new.disk) c.self.view_is (c.settle_areas.ensures.crash here l.rules l.history e rests)

pub returns-in-Ok-clause-settled : goal.returns-in-Ok-clause-settled
returns-in-Ok-clause-settled g c = λ plain x image.
    let l = c.self.inside.ledger in
    let here : Plain (g.R.Disk.told c.self.inside.rig) (g.R.Disk.honest c.self.inside.rig) =
    subst (λ (b : Booked g.row.G.Denot g.row.R.Denot). Plain (g.R.Disk.told b.rig) (g.R.Disk.honest b.rig)) (sym c.self.view_is) plain in
    let kept = (c.self.invariant.0 c.if-self.false).areas here in
    subst (λ (b : Booked g.row.G.Denot g.row.R.Denot). Settled b.rules b.history x) c.self.view_is
    (c.in-Ok.ensures.settled here l.rules l.history (payloads_in (after l.rules l.history) (g.R.Disk.seen c.self.inside.rig)) kept.rests kept.clean x image)

pub invariant_of-self : goal.invariant_of-self
invariant_of-self g c = (
  λ up.
      let l = c.self.inside.ledger in
      let r = c.settle_areas.ensures in
      let old = c.self.inside.logs in
      let new = c.settle_areas.new.logs in
      let base = keeps_same l.rules l.rules l.history l.history (room_for c.self.inside.spare (vec_len c.self.inside.claims)) l.spare l.spare
      old.journal old.vault new.journal new.vault old.carriers.items new.carriers.items (vec_capacity old.carriers) (vec_capacity new.carriers) _ _ _ _ refl refl
      r.journal_area r.journal_sizes r.vault_area r.vault_sizes r.items
      (room_lists (room_for c.self.inside.spare (vec_len c.self.inside.claims)) l.spare old.journal old.vault new.journal new.vault old.carriers.items new.carriers.items (vec_capacity old.carriers) (vec_capacity new.carriers) r.journal_spare r.vault_spare r.items r.capacity) (c.self.invariant.0 c.if-self.false) in
      record {
        logs = base.logs;
        carried = base.carried;
        room = base.room;
        areas = λ plain.
            let here = was_plain r.kind plain in
            let kept = (c.self.invariant.0 c.if-self.false).areas here in
            let e = payloads_in (after l.rules l.history) (g.R.Disk.seen c.self.inside.rig) in
            let now = g.met.R.Disk.reads_as_image c.settle_areas.new.disk plain in
            record {
              rests = rest_as_read l.rules l.history e (g.R.Disk.seen c.settle_areas.new.disk) (g.R.Disk.may_leave c.settle_areas.new.disk) c.len-len.ensures.legal now (r.crash here l.rules l.history e kept.rests).now;
              clean = (c.in-Ok.ensures.settled here l.rules l.history e kept.rests kept.clean (g.R.Disk.seen c.settle_areas.new.disk) now).clean;
            };
      },
  c.self.invariant.1,
  λ down plain. absurd (cc (down, c.if-self.false)),
  λ plain.
      let l = c.self.inside.ledger in
      let here = was_plain c.settle_areas.ensures.kind plain in
      let e = payloads_in (after l.rules l.history) (g.R.Disk.seen c.self.inside.rig) in
      let now = g.R.Disk.seen c.settle_areas.new.disk in
      keeps_still l.rules l.history (payloads_in (after l.rules l.history) (g.R.Disk.seen c.self.inside.rested.value)) c.self.inside.down (g.R.Disk.seen c.self.inside.rig)
      (g.R.Disk.seen c.self.inside.opened.value) c.if-self.false (c.self.invariant.3 here) now
      ((c.settle_areas.ensures.crash here l.rules l.history e ((c.self.invariant.0 c.if-self.false).areas here).rests).now now (g.met.R.Disk.reads_as_image c.settle_areas.new.disk plain)).1,
  opening_still c.self.invariant.4 c.settle_areas.ensures.kind c.in-Ok.ensures.cause.stays,
  c.self.invariant.5,
  λ plain. c.self.invariant.6 (was_plain c.settle_areas.ensures.kind plain),
)

pub invariant_of-self-in-Err : goal.invariant_of-self-in-Err
invariant_of-self-in-Err g c = (
  λ up. absurd (cc up),
  λ up. absurd (cc up),
  λ down plain.
      let l = c.self.inside.ledger in
      let here = was_plain c.settle_areas.ensures.kind plain in
      let e = payloads_in (after l.rules l.history) (g.R.Disk.seen c.self.inside.rested.value) in
      let rests = rests_with l.rules l.history e c.self.inside.down (g.R.Disk.seen c.self.inside.rig) (g.R.Disk.seen c.self.inside.opened.value) c.if-self.false (c.self.invariant.3 here)
      (g.R.Disk.may_leave c.self.inside.rig) ((c.self.invariant.0 c.if-self.false).areas here).rests in
      fell_alone l.rules l.history e c.self.inside.beside (g.R.Disk.may_leave c.settle_areas.new.disk) c.len-len.ensures.legal (c.self.invariant.1 c.if-self.false)
      (c.settle_areas.ensures.crash here l.rules l.history e rests).now,
  λ plain.
      let l = c.self.inside.ledger in
      keeps_fallen l.rules l.history (payloads_in (after l.rules l.history) (g.R.Disk.seen c.self.inside.rested.value)) c.self.inside.down (g.R.Disk.seen c.self.inside.rig)
      (g.R.Disk.seen c.settle_areas.new.disk) (g.R.Disk.seen c.self.inside.opened.value) (c.self.invariant.3 (was_plain c.settle_areas.ensures.kind plain)),
  opening_fell c.self.invariant.4 c.settle_areas.ensures.kind c.in-Err.ensures.cause.later c.in-Err.ensures.cause.failed,
  c.self.invariant.5,
  λ plain. c.self.invariant.6 (was_plain c.settle_areas.ensures.kind plain),
)
