use Rattle.delf_recovery.proofs.Notes.{noted_more}
use Rattle.delf_recovery.proofs.blank.note_blank.Goals as goal

pub returns-clause-noted : goal.returns-clause-noted
returns-clause-noted g c = λ plain noted.
    noted_more c.args.log.now.area (g.D.Disk.seen c.args.disk.now) c.args.notes.now c.args.i _ (λ blank. c.in_ok-notes.ensures.zero blank plain) noted
