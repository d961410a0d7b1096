use Rattle.std.proofs.Common.{◌<◌, length, refl, sym, ◌∙◌, subst, arith}
use Rattle.delf_disk.specs.Images.{Same}
use Rattle.delf_disk.specs.Areas.{Areas}
use Rattle.delf_disk.specs.Plain.{Plain}
use Rattle.delf_disk.proofs.Flags.{stays_plain, was_plain, same_kinds}
use Rattle.delf_disk.proofs.Moments.{started, same_on}
use Rattle.ledger.specs.Ledgers.{state_of}
use Rattle.delf_recovery.proofs.ItemRecords.{found_bounded, more_items, ends_unspelled, reads_none}
use Rattle.delf_recovery.specs.Mending.{AreNoted}
use Rattle.delf_recovery.proofs.Notes.{stands_still}
use Rattle.delf_recovery.proofs.items.read_items.Goals as goal

pub loop-i-init : goal.loop-i-init
loop-i-init g c = record {
  kind = record { tells = refl; keeps_word = refl; last_order = refl; order_count = refl };
  faults = refl;
  seen = λ plain. refl;
  moments = λ plain. started c.args.disk.now Same (λ x left. g.met.D.Disk.only_now c.args.disk.now x plain left) (λ x image. refl);
  read = reads_none _ c.args.log.now.area c.args.log.now.sizes (g.D.Disk.seen c.args.disk.now) (state_of c.args.fold.now).items;
  room = c.requires.room;
  noted = c.requires.noted;
}

pub is_item_at-requires-clause-types : goal.is_item_at-requires-clause-types
is_item_at-requires-clause-types g c =
    (found_bounded c.args.fold.now.rules c.args.fold.now.history c.loop-i.i c.in-Some.item c.requires.entries (sym c.item_at.ensures ∙ c.in-Some.is)).types

pub is_item_at-requires-clause-size : goal.is_item_at-requires-clause-size
is_item_at-requires-clause-size g c =
    (found_bounded c.args.fold.now.rules c.args.fold.now.history c.loop-i.i c.in-Some.item c.requires.entries (sym c.item_at.ensures ∙ c.in-Some.is)).size

pub returns-then-not-branch-clause-ended : goal.returns-then-not-branch-clause-ended
returns-then-not-branch-clause-ended g c =
    let l = c.args.log.now in
    let s = c.loop-i.invariant in
    λ inside. ends_unspelled _ _ l.area l.sizes c.loop-i.i (g.D.Disk.seen c.args.disk.now) (g.D.Disk.seen c.loop-i.disk) (state_of c.args.fold.now) c.in-Some.item
    (λ plain. stays_plain s.kind plain) s.seen inside (sym c.item_at.ensures ∙ c.in-Some.is) c.in_ok-is_item_at.field-0 c.in_ok-is_item_at.ensures.judged c.if-not-branch.true inside

pub note_blank-requires-clause-stands : goal.note_blank-requires-clause-stands
note_blank-requires-clause-stands g c = λ whole now.
    let l = c.args.log.now in
    let s = c.loop-i.invariant in
    let there = was_plain c.is_item_at.ensures.kind now in
    let plain = was_plain s.kind there in
    stands_still l.area l.sizes (same_on (s.moments plain) (c.is_item_at.ensures.any_moment there)) (c.requires.stands whole plain)

pub loop-i-preserved : goal.loop-i-preserved
loop-i-preserved g c =
    let l = c.args.log.now in
    let s = c.loop-i.invariant in
    let inside : c.loop-i.i < length c.args.log.now.sizes = omega (arith, c.loop-i-test.true, c.count-count.ensures) in
    let noting = λ (plain : Plain (g.D.Disk.told c.args.disk.now) (g.D.Disk.honest c.args.disk.now)). stays_plain c.is_item_at.ensures.kind (stays_plain s.kind plain) in
    let seen_there = λ (plain : Plain (g.D.Disk.told c.args.disk.now) (g.D.Disk.honest c.args.disk.now)). c.is_item_at.ensures.seen (stays_plain s.kind plain) ∙ s.seen plain in
    record {
      kind = same_kinds (same_kinds s.kind c.is_item_at.ensures.kind) c.note_blank.ensures.kind;
      faults = c.in_ok-note_blank.ensures.cause.stays ∙ (c.in_ok-is_item_at.ensures.cause.stays ∙ s.faults);
      seen = λ plain. c.note_blank.ensures.seen (noting plain) ∙ seen_there plain;
      moments = λ plain. same_on (same_on (s.moments plain) (c.is_item_at.ensures.any_moment (stays_plain s.kind plain))) (c.note_blank.ensures.any_moment (noting plain));
      read = more_items _ _ l.area l.sizes c.loop-i.i (g.D.Disk.seen c.args.disk.now) (g.D.Disk.seen c.loop-i.disk) (state_of c.args.fold.now) c.in-Some.item
          (λ plain. stays_plain s.kind plain) s.seen inside (sym c.item_at.ensures ∙ c.in-Some.is) c.in_ok-is_item_at.field-0 c.in_ok-is_item_at.ensures.judged c.if-not-branch.false s.read;
      room = c.note_blank.ensures.room ∙ s.room;
      noted = λ plain.
          subst (λ (x : Areas). AreNoted l.area x c.note_blank.new.notes) (seen_there plain)
          (c.in_ok-note_blank.ensures.noted (noting plain) (subst (λ (x : Areas). AreNoted l.area x c.loop-i.notes) (sym (seen_there plain)) (s.noted plain)));
    }
