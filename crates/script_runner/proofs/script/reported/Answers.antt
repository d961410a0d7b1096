use Rattle.delf_book.proofs.Owned.{still_as}
use Rattle.script_runner.proofs.script.reported.Goals as goal

pub returns-in-Err-DiskFault-clause-leaves : goal.returns-in-Err-DiskFault-clause-leaves
returns-in-Err-DiskFault-clause-leaves g c =
    let at = c.in-Err-DiskFault in
    let answer = rw at.field-0-is at at.ensures.answer in
    let cause = rw at.field-0-is at at.ensures.cause in
    record {
      fell = answer.1;
      length_is = cc (answer.2);
      rest = λ plain e rests. still_as g.R.Disk.seen g.R.Disk.moment g.R.Disk.may_leave g.R.Disk.left_since c.args.book.now c.settle.new.self e
          (record { legal = c.len-len.ensures.legal; image = g.met.R.Disk.reads_as_image c.args.book.now.rig plain; holds = c.standing.ensures.holds plain }) c.requires.up rests
          (at.ensures.crash plain c.requires.up);
      kind = at.ensures.kind;
      later = cause.0;
      rose = cause.1;
    }
