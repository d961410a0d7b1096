use Rattle.std.proofs.Common.{◌∙◌, ap, length, arith}
use Rattle.delf_disk.proofs.Flags.{stays_plain, was_plain, same_kinds}
use Rattle.ledger.specs.Ledgers.{state_of}
use Rattle.delf_book.proofs.Writes.{leaves_joined}
use Rattle.delf_recovery.proofs.DeadPayloads.{zero_further, zero_all, noted_further}
use Rattle.delf_recovery.proofs.scrubs.scrub_dead.Goals as goal

pub returns-in_err-scrub_record-clause-crash : goal.returns-in_err-scrub_record-clause-crash
returns-in_err-scrub_record-clause-crash g c = λ plain e rests.
    let s = c.loop-i.invariant in
    let so_far = s.leaves plain e rests in
    leaves_joined so_far (c.scrub_record.ensures.crash (stays_plain s.kind plain) e so_far.now)

pub scrub_record-requires-clause-blank : goal.scrub_record-requires-clause-blank
scrub_record-requires-clause-blank g c = λ blank now.
    let s = c.loop-i.invariant in
    s.noted (was_plain s.kind now) c.loop-i.i (c.is_noted.ensures blank)

pub loop-i-preserved : goal.loop-i-preserved
loop-i-preserved g c =
    let s = c.loop-i.invariant in
    record {
      area = c.scrub_record.ensures.area ∙ s.area;
      sizes = c.scrub_record.ensures.sizes ∙ s.sizes;
      kind = same_kinds s.kind c.scrub_record.ensures.kind;
      faults = c.in_ok-scrub_record.ensures.cause.stays ∙ s.faults;
      stands = λ plain. c.scrub_record.ensures.stands (stays_plain s.kind plain);
      leaves = λ plain e rests.
          let so_far = s.leaves plain e rests in
          leaves_joined so_far (c.scrub_record.ensures.crash (stays_plain s.kind plain) e so_far.now);
      zero = λ plain.
          let now = stays_plain s.kind plain in
          zero_further (state_of c.args.fold.now) c.args.area c.loop-i.i (g.D.Disk.seen c.loop-i.disk) (g.D.Disk.seen c.scrub_record.new.disk)
          (s.zero plain) (c.in_ok-scrub_record.ensures.zero now) (c.in_ok-scrub_record.ensures.others now);
      noted = λ plain.
          let now = stays_plain s.kind plain in
          noted_further c.args.area c.loop-i.i c.args.notes.now (g.D.Disk.seen c.loop-i.disk) (g.D.Disk.seen c.scrub_record.new.disk)
          (s.noted plain) (c.in_ok-scrub_record.ensures.stays_zero now) (c.in_ok-scrub_record.ensures.others now);
      other = λ plain. c.in_ok-scrub_record.ensures.other_area (stays_plain s.kind plain) ∙ s.other plain;
    }

pub returns-clause-zero : goal.returns-clause-zero
returns-clause-zero g c = λ plain.
    let s = c.loop-i.invariant in
    let log = c.loop-i.log in
    zero_all (state_of c.args.fold.now) c.args.area log.area log.sizes c.loop-i.i (g.D.Disk.seen c.loop-i.disk) (s.area ∙ c.requires.area)
    (s.stands plain (g.D.Disk.seen c.loop-i.disk) (g.met.D.Disk.reads_as_image c.loop-i.disk (stays_plain s.kind plain)))
    (omega (arith, c.loop-i-test.false, c.loop-i.auto.i-end, c.count-count.ensures, ap length s.sizes)) (s.zero plain)
