use Rattle.std.proofs.Common.{take}
use Rattle.std.proofs.lemmas.Result.{IfOk-weaker}
use Rattle.delf_book.proofs.Stored.{read_needed}
use Rattle.delf_book.proofs.reading.read_record.Goals as goal

pub returns-clause-payload : goal.returns-clause-payload
returns-clause-payload g c =
    IfOk-weaker c.read_payload.result _ _ (λ n read plain rules h e rests p needed carried.
    let seen = g.D.Disk.seen c.args.disk.now in
    let here = g.met.D.Disk.reads_as_image c.args.disk.now plain in
    read_needed rules h e c.args.journal.now.area c.args.journal.now.sizes seen c.args.i p (take n c.read_payload.new.buf) c.requires.area (rests seen here) (c.requires.stands plain seen here) (read plain)
    needed carried)
    c.read_payload.ensures.payload
