use Rattle.std.proofs.Common.{◌≡◌, ℕ, take, sym, subst}
use Rattle.delf_disk.specs.Plain.{Plain}
use Rattle.delf_disk.specs.Areas.{Areas}
use Rattle.delf_disk.specs.Images.{Same}
use Rattle.delf_disk.specs.Moments.{Runs}
use Rattle.delf_disk.proofs.Flags.{was_plain}
use Rattle.delf_model.specs.Step.{after}
use Rattle.store_laws.specs.Stores.{Clean}
use Rattle.delf_model.specs.Graph.{object_at}
use Rattle.delf_model.specs.Payloads.{payload_at}
use Rattle.delf_book.specs.Books.{Booked, state_in}
use Rattle.delf_book.specs.Reads.{IsObjectAt}
use Rattle.delf_book.specs.Keeping.{payloads_in}
use Rattle.delf_book.proofs.Fallen.{fell_alone}
use Rattle.delf_book.proofs.Held.{rest_as_read}
use Rattle.delf_book.proofs.Payloads.{rests_with, keeps_still, keeps_fallen, opening_still, opening_fell}
use Rattle.delf_book.proofs.Sizes.{journal_in}
use Rattle.delf_book.proofs.book.Book.read_object.Goals as goal

pub read_object_at-requires-clause-stands : goal.read_object_at-requires-clause-stands
read_object_at-requires-clause-stands g c = λ plain.
    let l = c.self.inside.ledger in
    let kept = c.self.invariant.0 c.if-self.false in
    journal_in l.rules l.history c.self.inside.logs.journal c.self.inside.logs.vault (g.R.Disk.may_leave c.self.inside.rig) kept.logs
    (payloads_in (after l.rules l.history) (g.R.Disk.seen c.self.inside.rig)) (kept.areas plain).rests

pub invariant_of-self : goal.invariant_of-self
invariant_of-self g c = (
  λ up.
      let l = c.self.inside.ledger in
      let base = c.self.invariant.0 c.if-self.false in
      record {
        logs = base.logs;
        carried = base.carried;
        room = base.room;
        areas = λ plain.
            let here = was_plain c.read_object_at.ensures.kind plain in
            let kept = base.areas here in
            let e = payloads_in (after l.rules l.history) (g.R.Disk.seen c.self.inside.rig) in
            let now = g.met.R.Disk.reads_as_image c.read_object_at.new.disk plain in
            record {
              rests = rest_as_read l.rules l.history e (g.R.Disk.seen c.read_object_at.new.disk) (g.R.Disk.may_leave c.read_object_at.new.disk) c.len-len.ensures.legal now (c.read_object_at.ensures.crash here l.rules l.history e kept.rests).now;
              clean = subst (λ (areas : Areas). Clean l.rules l.history areas) (sym (c.read_object_at.ensures.seen here)) kept.clean;
            };
      },
  c.self.invariant.1,
  λ down plain. absurd (cc (down, c.if-self.false)),
  λ plain.
      let l = c.self.inside.ledger in
      let here = was_plain c.read_object_at.ensures.kind plain in
      let e = payloads_in (after l.rules l.history) (g.R.Disk.seen c.self.inside.rig) in
      let now = g.R.Disk.seen c.read_object_at.new.disk in
      keeps_still l.rules l.history (payloads_in (after l.rules l.history) (g.R.Disk.seen c.self.inside.rested.value)) c.self.inside.down (g.R.Disk.seen c.self.inside.rig)
      (g.R.Disk.seen c.self.inside.opened.value) c.if-self.false (c.self.invariant.3 here) now
      ((c.read_object_at.ensures.crash here l.rules l.history e ((c.self.invariant.0 c.if-self.false).areas here).rests).now now (g.met.R.Disk.reads_as_image c.read_object_at.new.disk plain)).1,
  opening_still c.self.invariant.4 c.read_object_at.ensures.kind c.in-Ok.ensures.cause.stays,
  c.self.invariant.5,
  λ plain. c.self.invariant.6 (was_plain c.read_object_at.ensures.kind plain),
)

pub returns-in-Ok-clause-payload : goal.returns-in-Ok-clause-payload
returns-in-Ok-clause-payload g c = λ plain.
    let l = c.self.inside.ledger in
    let here : Plain (g.R.Disk.told c.self.inside.rig) (g.R.Disk.honest c.self.inside.rig) =
    subst (λ (b : Booked g.row.G.Denot g.row.R.Denot). Plain (g.R.Disk.told b.rig) (g.R.Disk.honest b.rig)) (sym c.self.view_is) plain in
    let e = payloads_in (after l.rules l.history) (g.R.Disk.seen c.self.inside.rested.value) in
    subst (λ (b : Booked g.row.G.Denot g.row.R.Denot). (at : ℕ) → IsObjectAt (object_at (state_in b).graph c.args.id) at c.in-Ok.size → take c.in-Ok.size c.read_object_at.new.buf ≡ payload_at b.payloads at) c.self.view_is
    (c.in-Ok.ensures.payload here e
    (rests_with l.rules l.history e c.self.inside.down (g.R.Disk.seen c.self.inside.rig) (g.R.Disk.seen c.self.inside.opened.value) c.if-self.false (c.self.invariant.3 here)
    (g.R.Disk.may_leave c.self.inside.rig) ((c.self.invariant.0 c.if-self.false).areas here).rests))

pub invariant_of-self-in-Err : goal.invariant_of-self-in-Err
invariant_of-self-in-Err g c = (
  λ up. absurd (cc up),
  λ up. absurd (cc up),
  λ down plain.
      let l = c.self.inside.ledger in
      let here = was_plain c.read_object_at.ensures.kind plain in
      let e = payloads_in (after l.rules l.history) (g.R.Disk.seen c.self.inside.rested.value) in
      let rests = rests_with l.rules l.history e c.self.inside.down (g.R.Disk.seen c.self.inside.rig) (g.R.Disk.seen c.self.inside.opened.value) c.if-self.false (c.self.invariant.3 here)
      (g.R.Disk.may_leave c.self.inside.rig) ((c.self.invariant.0 c.if-self.false).areas here).rests in
      fell_alone l.rules l.history e c.self.inside.beside (g.R.Disk.may_leave c.read_object_at.new.disk) c.len-len.ensures.legal (c.self.invariant.1 c.if-self.false)
      (c.read_object_at.ensures.crash here l.rules l.history e rests).now,
  λ plain.
      let l = c.self.inside.ledger in
      keeps_fallen l.rules l.history (payloads_in (after l.rules l.history) (g.R.Disk.seen c.self.inside.rested.value)) c.self.inside.down (g.R.Disk.seen c.self.inside.rig)
      (g.R.Disk.seen c.read_object_at.new.disk) (g.R.Disk.seen c.self.inside.opened.value) (c.self.invariant.3 (was_plain c.read_object_at.ensures.kind plain)),
  opening_fell c.self.invariant.4 c.read_object_at.ensures.kind c.in-Err.ensures.cause.later c.in-Err.ensures.cause.failed,
  c.self.invariant.5,
  λ plain. c.self.invariant.6 (was_plain c.read_object_at.ensures.kind plain),
)

pub returns-in-Ok-clause-images : goal.returns-in-Ok-clause-images
returns-in-Ok-clause-images g c = λ plain.
    subst (λ (b : Booked g.row.G.Denot g.row.R.Denot). Plain (g.R.Disk.told b.rig) (g.R.Disk.honest b.rig) →
    Runs g.R.Disk.moment g.R.Disk.may_leave g.R.Disk.left_since Same b.rig c.read_object_at.new.disk) c.self.view_is (λ here. c.read_object_at.ensures.any_moment here) plain

pub returns-in-Err-clause-images : goal.returns-in-Err-clause-images
returns-in-Err-clause-images g c = λ plain.
    subst (λ (b : Booked g.row.G.Denot g.row.R.Denot). Plain (g.R.Disk.told b.rig) (g.R.Disk.honest b.rig) →
    Runs g.R.Disk.moment g.R.Disk.may_leave g.R.Disk.left_since Same b.rig c.read_object_at.new.disk) c.self.view_is (λ here. c.read_object_at.ensures.any_moment here) plain
