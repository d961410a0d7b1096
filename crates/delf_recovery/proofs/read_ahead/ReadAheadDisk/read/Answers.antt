use Rattle.std.proofs.Common.{rules}
use Rattle.std.specs.Prelude.{length}
use Rattle.delf_disk.specs.Areas.{area_of}
use Rattle.delf_recovery.proofs.Pieces.{joined, on_ok}
use Rattle.delf_recovery.proofs.read_ahead.ReadAheadDisk.read.Goals as goal

pub returns-clause-bytes : goal.returns-clause-bytes
returns-clause-bytes g c = on_ok c.refill.result c.refill.ensures.bytes (λ rest plain.
    let seen = g.D.Disk.seen c.args.self.now in
    joined c.give-given.result (length c.args.buf.now) c.args.at c.give-given.new.buf c.refill.new.buf (area_of c.args.area (g.D.Disk.seen c.args.self.now)) (search rules) (search rules)
    (c.give-given.ensures.given seen (search rules)) (rest plain))
