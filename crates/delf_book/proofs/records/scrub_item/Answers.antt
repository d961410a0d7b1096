use Rattle.delf_book.proofs.Writes.{on_ok, item_scrub_leaves, item_scrubbed}
use Rattle.delf_book.proofs.records.scrub_item.Goals as goal

pub returns-clause-crash : goal.returns-clause-crash
returns-clause-crash g c = λ plain rules h e rests dead.
    item_scrub_leaves rules h e c.args.i c.args.vault.now.area c.args.vault.now.sizes c.requires.area dead rests (c.requires.stands plain) (c.scrub.ensures.any_moment plain)

pub returns-clause-scrubbed : goal.returns-clause-scrubbed
returns-clause-scrubbed g c =
    on_ok c.scrub.result (λ scrubs again plain rules h e rests dead.
    item_scrubbed rules h e c.args.i c.args.vault.now.area c.args.vault.now.sizes c.requires.area dead (g.D.Disk.may_leave c.args.disk.now)
    (g.D.Disk.seen c.args.disk.now) (g.D.Disk.seen c.scrub.new.disk) (g.met.D.Disk.reads_as_image c.args.disk.now plain) rests (c.requires.stands plain) (scrubs plain))
    c.scrub.ensures.scrubbed c.scrub.ensures.scrubbed
