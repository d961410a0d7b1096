use Rattle.delf_book.proofs.Writes.{on_ok, write_leaves, write_rests, write_remains}
use Rattle.delf_book.proofs.records.write_record.Goals as goal

pub returns-clause-crash : goal.returns-clause-crash
returns-clause-crash g c = λ plain rules h e given added writes.
    write_leaves rules h e c.args.entry.now given added c.args.payload.now _ _ c.args.journal.now.sizes c.requires.area c.write_entry-len.ensures.head c.write_entry-len.ensures.entry
    writes (c.requires.stands plain) (c.append.ensures.any_moment plain)

pub returns-clause-done : goal.returns-clause-done
returns-clause-done g c =
    on_ok c.append.result (λ adds only plain rules h e given added writes.
    write_rests rules h e c.args.entry.now given added c.args.payload.now _ _ c.args.journal.now.sizes c.requires.area c.write_entry-len.ensures.head c.write_entry-len.ensures.entry
    (g.D.Disk.may_leave c.args.disk.now) (g.D.Disk.may_leave c.append.new.disk) writes (c.requires.stands plain) (g.D.Disk.seen c.args.disk.now) (g.D.Disk.seen c.append.new.disk) (g.met.D.Disk.reads_as_image c.args.disk.now plain) (adds plain) (only plain))
    c.append.ensures.added c.append.ensures.durable

pub returns-clause-remains : goal.returns-clause-remains
returns-clause-remains g c =
    on_ok c.append.result (λ adds only plain rules h e given added writes clean.
    write_remains rules h e c.args.entry.now given added c.args.payload.now _ _ c.args.journal.now.sizes c.requires.area c.write_entry-len.ensures.head c.write_entry-len.ensures.entry
    (g.D.Disk.may_leave c.args.disk.now) writes (c.requires.stands plain) (g.D.Disk.seen c.args.disk.now) (g.D.Disk.seen c.append.new.disk)
    (g.met.D.Disk.reads_as_image c.args.disk.now plain) clean (adds plain))
    c.append.ensures.added c.append.ensures.durable
