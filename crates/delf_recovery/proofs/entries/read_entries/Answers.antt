use Rattle.std.proofs.Common.{length, ◌<◌, ◌∙◌, sym, subst, arith}
use Rattle.delf_disk.specs.Areas.{Areas}
use Rattle.delf_disk.specs.Plain.{Plain}
use Rattle.delf_disk.proofs.Flags.{stays_plain, was_plain, same_kinds}
use Rattle.delf_disk.proofs.Moments.{same_on}
use Rattle.delf_recovery.proofs.JournalRecords.{same_rules, goes_on, ends_wrong}
use Rattle.delf_recovery.specs.Mending.{AreNoted}
use Rattle.delf_recovery.proofs.Notes.{stands_still}
use Rattle.delf_recovery.proofs.entries.read_entries.Goals as goal

pub returns-then-not-branch-clause-ended : goal.returns-then-not-branch-clause-ended
returns-then-not-branch-clause-ended g c =
    let l = c.args.log.now in
    let s = c.loop-i.invariant in
    ends_wrong _ _ l.area l.sizes c.loop-i.i (g.D.Disk.seen c.args.disk.now) (g.D.Disk.seen c.loop-i.disk) c.loop-i.fold c.take_record.new.fold c.in_ok-take_record.field-0
    (λ plain. stays_plain s.kind plain) s.seen c.in_ok-take_record.ensures.judged c.if-not-branch.true

pub note_blank-requires-clause-stands : goal.note_blank-requires-clause-stands
note_blank-requires-clause-stands g c = λ whole now.
    let l = c.args.log.now in
    let s = c.loop-i.invariant in
    let there = was_plain c.take_record.ensures.kind now in
    let plain = was_plain s.kind there in
    stands_still l.area l.sizes (same_on (s.moments plain) (c.take_record.ensures.any_moment there)) (c.requires.stands whole plain)

pub loop-i-preserved : goal.loop-i-preserved
loop-i-preserved g c =
    let l = c.args.log.now in
    let s = c.loop-i.invariant in
    let inside : c.loop-i.i < length c.args.log.now.sizes = omega (arith, c.loop-i-test.true, c.count-count.ensures) in
    let old = c.loop-i.fold in
    let new = c.take_record.new.fold in
    let noting = λ (plain : Plain (g.D.Disk.told c.args.disk.now) (g.D.Disk.honest c.args.disk.now)). stays_plain c.take_record.ensures.kind (stays_plain s.kind plain) in
    let seen_there = λ (plain : Plain (g.D.Disk.told c.args.disk.now) (g.D.Disk.honest c.args.disk.now)). c.take_record.ensures.seen (stays_plain s.kind plain) ∙ s.seen plain in
    record {
      rules = same_rules _ _ l.area l.sizes c.loop-i.i (g.D.Disk.seen c.args.disk.now) (g.D.Disk.seen c.loop-i.disk) old new c.in_ok-take_record.field-0
          (λ plain. stays_plain s.kind plain) s.seen c.in_ok-take_record.ensures.judged c.if-not-branch.false ∙ s.rules;
      kind = same_kinds (same_kinds s.kind c.take_record.ensures.kind) c.note_blank.ensures.kind;
      faults = c.in_ok-note_blank.ensures.cause.stays ∙ (c.in_ok-take_record.ensures.cause ∙ s.faults);
      seen = λ plain. c.note_blank.ensures.seen (noting plain) ∙ seen_there plain;
      moments = λ plain. same_on (same_on (s.moments plain) (c.take_record.ensures.any_moment (stays_plain s.kind plain))) (c.note_blank.ensures.any_moment (noting plain));
      read = goes_on _ _ l.area l.sizes c.loop-i.i (g.D.Disk.seen c.args.disk.now) (g.D.Disk.seen c.loop-i.disk) old new c.in_ok-take_record.field-0
          (λ plain. stays_plain s.kind plain) s.seen c.in_ok-take_record.ensures.judged c.if-not-branch.false inside s.read;
      room = c.note_blank.ensures.room ∙ s.room;
      noted = λ plain.
          subst (λ (x : Areas). AreNoted l.area x c.note_blank.new.notes) (seen_there plain)
          (c.in_ok-note_blank.ensures.noted (noting plain) (subst (λ (x : Areas). AreNoted l.area x c.loop-i.notes) (sym (seen_there plain)) (s.noted plain)));
    }
