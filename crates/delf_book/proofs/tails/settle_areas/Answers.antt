use Rattle.std.proofs.Common.{sym, subst}
use Rattle.delf_disk.specs.Areas.{Areas}
use Rattle.delf_disk.proofs.Flags.{stays_plain}
use Rattle.store_laws.specs.Stores.{Settled}
use Rattle.delf_book.proofs.Writes.{on_ok, leaves_joined}
use Rattle.delf_book.proofs.Settling.{journal_settles, vault_settles, both_settled, vault_stand_after, journal_sized_at, vault_sized_at}
use Rattle.delf_book.proofs.tails.settle_areas.Goals as goal

pub returns-in_err-settle-clause-crash : goal.returns-in_err-settle-clause-crash
returns-in_err-settle-clause-crash g c = λ plain rules h e rests.
    journal_settles rules h e c.args.logs.now.journal.area c.args.logs.now.journal.sizes c.requires.journal rests (c.requires.journal_stands plain) (c.settle.ensures.any_moment plain)

pub returns-clause-crash : goal.returns-clause-crash
returns-clause-crash g c = λ plain rules h e rests.
    let logs = c.args.logs.now in
    let first = journal_settles rules h e logs.journal.area logs.journal.sizes c.requires.journal rests (c.requires.journal_stands plain) (c.settle.ensures.any_moment plain) in
    leaves_joined first
    (vault_settles rules h e logs.vault.area logs.vault.sizes c.requires.vault first.now
    (λ x image. vault_stand_after logs.vault.area logs.journal.area logs.vault.sizes logs.journal.sizes (g.D.Disk.may_leave c.args.disk.now) x c.requires.vault c.requires.journal
    (c.requires.vault_stands plain) ((c.settle.ensures.any_moment plain).now x image))
    (c.settle-2.ensures.any_moment (stays_plain c.settle.ensures.kind plain)))

pub returns-clause-settled : goal.returns-clause-settled
returns-clause-settled g c =
    on_ok c.settle-2.result (λ settles only plain rules h e rests clean x image.
    let logs = c.args.logs.now in
    let at_mid = stays_plain c.settle.ensures.kind plain in
    let first = journal_settles rules h e logs.journal.area logs.journal.sizes c.requires.journal rests (c.requires.journal_stands plain) (c.settle.ensures.any_moment plain) in
    let old = g.met.D.Disk.reads_as_image c.args.disk.now plain in
    let mid = g.met.D.Disk.reads_as_image c.settle.new.disk at_mid in
    let vault = vault_stand_after logs.vault.area logs.journal.area logs.vault.sizes logs.journal.sizes (g.D.Disk.may_leave c.args.disk.now) (g.D.Disk.seen c.settle.new.disk) c.requires.vault c.requires.journal
    (c.requires.vault_stands plain) ((c.settle.ensures.any_moment plain).now (g.D.Disk.seen c.settle.new.disk) mid) in
    subst (λ (y : Areas). Settled rules h y) (sym (only at_mid x image))
    (both_settled rules h e (g.D.Disk.seen c.args.disk.now) (g.D.Disk.seen c.settle.new.disk) (g.D.Disk.seen c.settle-2.new.disk) logs.journal.area logs.vault.area logs.journal.sizes logs.vault.sizes
    c.requires.journal c.requires.vault (rests (g.D.Disk.seen c.args.disk.now) old) (first.now (g.D.Disk.seen c.settle.new.disk) mid) clean
    (journal_sized_at logs.journal.area logs.journal.sizes (g.D.Disk.seen c.args.disk.now) c.requires.journal (c.requires.journal_stands plain (g.D.Disk.seen c.args.disk.now) old))
    (vault_sized_at logs.vault.area logs.vault.sizes (g.D.Disk.seen c.settle.new.disk) c.requires.vault vault)
    (c.in_ok-settle.ensures.settled plain) (settles at_mid)))
    c.settle-2.ensures.settled c.settle-2.ensures.durable
