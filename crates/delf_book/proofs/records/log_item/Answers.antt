use Rattle.gate_log.specs.Records.{Record}
use Rattle.delf_book.proofs.Writes.{on_ok, item_leaves, item_there}
use Rattle.delf_book.proofs.records.log_item.Goals as goal

pub returns-clause-crash : goal.returns-clause-crash
returns-clause-crash g c = λ plain rules h e legal rests.
    let added : Record = record { head = c.args.head.now; payload = c.args.payload.now } in
    item_leaves rules h e added c.args.vault.now.area c.args.vault.now.sizes c.requires.area legal rests (c.requires.stands plain) (c.append.ensures.any_moment plain)

pub returns-clause-done : goal.returns-clause-done
returns-clause-done g c =
    on_ok c.append.result (λ adds only plain rules h e legal rests.
    let added : Record = record { head = c.args.head.now; payload = c.args.payload.now } in
    item_there rules h e added c.args.vault.now.area c.args.vault.now.sizes c.requires.area legal (g.D.Disk.may_leave c.args.disk.now) (g.D.Disk.may_leave c.append.new.disk)
    (g.D.Disk.seen c.args.disk.now) (g.D.Disk.seen c.append.new.disk) (g.met.D.Disk.reads_as_image c.args.disk.now plain) rests (c.requires.stands plain) (adds plain) (only plain))
    c.append.ensures.added c.append.ensures.durable
