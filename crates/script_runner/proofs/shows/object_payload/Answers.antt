use Rattle.std.proofs.Common.{◌≡◌, ℕ, min, take, ap, ◌∙◌, rules, arith}
use Rattle.script_runner.proofs.Finds.{object_bytes, take_within}
use Rattle.delf_book.proofs.RowRecords.{read_rests}
use Rattle.delf_book.proofs.Owned.{same_as}
use Rattle.script_runner.proofs.shows.object_payload.Goals as goal

pub returns-in-Ok-clause-bytes : goal.returns-in-Ok-clause-bytes
returns-in-Ok-clause-bytes g c = λ plain clock e rests.
    let at = c.in-Ok.ensures.size in
    let same = same_as g.R.Disk.seen g.R.Disk.moment g.R.Disk.may_leave g.R.Disk.left_since c.args.book.now c.args.book.now e
    (record { legal = c.len-len.ensures.legal; image = g.met.R.Disk.reads_as_image c.args.book.now.rig plain; holds = c.standing.ensures.holds plain }) c.requires.up rests in
    let least : c.min.result ≡ min c.in-Ok.size 512 = search rules in
    object_bytes _ c.args.row.now at.0 c.in-Ok.size e _ c.requires.there at.1
    (ap (λ (k : ℕ). take k c.read_object.new.buf) least
    ∙ take_within c.in-Ok.size 512 c.read_object.new.buf (omega (arith, c.read_object.auto.buf, c.requires.room))
    ∙ c.in-Ok.ensures.payload plain at.0 at.1
    ∙ same.bytes at.0)

pub returns-in-Ok-clause-leaves : goal.returns-in-Ok-clause-leaves
returns-in-Ok-clause-leaves g c = record {
  only = c.in-Ok.ensures.answer.1;
  rest = λ plain e rests d image. read_rests c.args.book.now.rules c.args.book.now.history e rests (c.in-Ok.ensures.images plain) d image;
  kind = c.in-Ok.ensures.kind;
  count = c.in-Ok.ensures.cause;
}

pub returns-in-Err-DiskFault-clause-leaves : goal.returns-in-Err-DiskFault-clause-leaves
returns-in-Err-DiskFault-clause-leaves g c =
    let at = c.in-Err-DiskFault in
    let answer = rw at.field-0-is at at.ensures.answer in
    let cause = rw at.field-0-is at at.ensures.cause in
    record {
      fell = answer.1;
      length_is = answer.2;
      rest = λ plain e rests d image. read_rests c.args.book.now.rules c.args.book.now.history e rests (at.ensures.images plain) d image;
      kind = at.ensures.kind;
      later = cause.0;
      rose = cause.1;
    }
