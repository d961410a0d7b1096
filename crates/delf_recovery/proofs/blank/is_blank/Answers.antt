use Rattle.std.proofs.Common.{rules, length, take, subst}
use Rattle.gate_log.specs.Steps.{PayloadRead}
use Rattle.delf_recovery.proofs.DeadPayloads.{blank_zero}
use Rattle.delf_recovery.proofs.blank.is_blank.Goals as goal

pub returns-clause-zero : goal.returns-clause-zero
returns-clause-zero g c = λ blank plain.
    let log = c.args.log.now in
    let seen = g.D.Disk.seen c.args.disk.now in
    blank_zero c.args.i (length (take c.in_ok-len.len c.read_payload.new.buf)) log.area log.sizes seen (c.requires.stands (search rules) plain seen (g.met.D.Disk.reads_as_image c.args.disk.now plain))
    (subst (PayloadRead log.area log.sizes c.args.i seen) (c.are_zeros.ensures.0 (search rules)) (c.in_ok-len.ensures.payload plain))
