use Rattle.std.proofs.Common.{◌∙◌, sym, subst}
use Rattle.delf_disk.specs.declared.area.Area.TheVariants as area
use Rattle.delf_disk.proofs.Flags.{stays_plain, was_plain}
use Rattle.delf_disk.proofs.Moments.{leaves_kept}
use Rattle.delf_model.specs.Payloads.{Journal, Vault}
use Rattle.store_laws.specs.Stores.{Clean}
use Rattle.delf_book.proofs.Sizes.{journal_in, vault_in}
use Rattle.delf_book.proofs.Writes.{on_ok}
use Rattle.delf_recovery.proofs.Notes.{noted_there}
use Rattle.delf_recovery.proofs.Mended.{rests_leave, clean_now}
use Rattle.delf_recovery.proofs.mending.mend.Goals as goal

pub scrub_dead-requires-clause-rests : goal.scrub_dead-requires-clause-rests
scrub_dead-requires-clause-rests g c = λ now.
    let plain = was_plain c.drop_extra.ensures.kind now in
    let standing = c.requires.standing plain in
    record { payloads = standing.payloads; rests = c.in_ok-drop_extra.ensures.rests plain standing.payloads standing.stand }

pub scrub_dead-requires-clause-stands : goal.scrub_dead-requires-clause-stands
scrub_dead-requires-clause-stands g c = λ now.
    let f = c.args.fold.now in
    let plain = was_plain c.drop_extra.ensures.kind now in
    let standing = c.requires.standing plain in
    journal_in f.rules f.history c.args.journal.now c.drop_extra.new.vault (g.D.Disk.may_leave c.drop_extra.new.disk)
    (record { journal_area = c.requires.journal; vault_area = c.drop_extra.ensures.area ∙ c.requires.vault; journal_is = c.requires.sizes; vault_is = c.in_ok-drop_extra.ensures.sizes })
    standing.payloads (c.in_ok-drop_extra.ensures.rests plain standing.payloads standing.stand)

pub scrub_dead-requires-clause-noted : goal.scrub_dead-requires-clause-noted
scrub_dead-requires-clause-noted g c = λ now k is.
    let plain = was_plain c.drop_extra.ensures.kind now in
    c.in_ok-drop_extra.ensures.zeros plain (Journal k) (c.requires.journal_noted plain k is)

pub scrub_dead-requires-2-clause-noted : goal.scrub_dead-requires-2-clause-noted
scrub_dead-requires-2-clause-noted g c = λ now.
    let one = was_plain c.scrub_dead.ensures.kind now in
    let plain = was_plain c.drop_extra.ensures.kind one in
    noted_there area.Vault (g.D.Disk.seen c.drop_extra.new.disk) (g.D.Disk.seen c.scrub_dead.new.disk) c.args.vault_notes.now (c.in_ok-scrub_dead.ensures.other_area one)
    (λ k is. c.in_ok-drop_extra.ensures.zeros plain (Vault k) (c.requires.vault_noted plain k is))

pub returns-in_err-scrub_dead-clause-crash : goal.returns-in_err-scrub_dead-clause-crash
returns-in_err-scrub_dead-clause-crash g c = λ plain e but.
    let f = c.args.fold.now in
    let one = stays_plain c.drop_extra.ensures.kind plain in
    rests_leave f.rules f.history e c.requires.legal (c.drop_extra.ensures.crash plain e but) (c.scrub_dead.ensures.crash one e (c.in_ok-drop_extra.ensures.rests plain e but))

pub scrub_dead-requires-2-clause-rests : goal.scrub_dead-requires-2-clause-rests
scrub_dead-requires-2-clause-rests g c = λ now.
    let one = was_plain c.scrub_dead.ensures.kind now in
    let plain = was_plain c.drop_extra.ensures.kind one in
    let standing = c.requires.standing plain in
    record { payloads = standing.payloads; rests = (c.scrub_dead.ensures.crash one standing.payloads (c.in_ok-drop_extra.ensures.rests plain standing.payloads standing.stand)).now }

pub scrub_dead-requires-2-clause-stands : goal.scrub_dead-requires-2-clause-stands
scrub_dead-requires-2-clause-stands g c = λ now.
    let f = c.args.fold.now in
    let one = was_plain c.scrub_dead.ensures.kind now in
    let plain = was_plain c.drop_extra.ensures.kind one in
    let standing = c.requires.standing plain in
    vault_in f.rules f.history c.args.journal.now c.drop_extra.new.vault (g.D.Disk.may_leave c.scrub_dead.new.disk)
    (record { journal_area = c.requires.journal; vault_area = c.drop_extra.ensures.area ∙ c.requires.vault; journal_is = c.requires.sizes; vault_is = c.in_ok-drop_extra.ensures.sizes })
    standing.payloads (c.scrub_dead.ensures.crash one standing.payloads (c.in_ok-drop_extra.ensures.rests plain standing.payloads standing.stand)).now

pub returns-in_err-scrub_dead-2-clause-crash : goal.returns-in_err-scrub_dead-2-clause-crash
returns-in_err-scrub_dead-2-clause-crash g c = λ plain e but.
    let f = c.args.fold.now in
    let one = stays_plain c.drop_extra.ensures.kind plain in
    let two = stays_plain c.scrub_dead.ensures.kind one in
    let first = c.scrub_dead.ensures.crash one e (c.in_ok-drop_extra.ensures.rests plain e but) in
    rests_leave f.rules f.history e c.requires.legal (rests_leave f.rules f.history e c.requires.legal (c.drop_extra.ensures.crash plain e but) first)
    (c.scrub_dead-2.ensures.crash two e first.now)

pub returns-clause-crash : goal.returns-clause-crash
returns-clause-crash g c = λ plain e but.
    let f = c.args.fold.now in
    let one = stays_plain c.drop_extra.ensures.kind plain in
    let two = stays_plain c.scrub_dead.ensures.kind one in
    let three = stays_plain c.scrub_dead-2.ensures.kind two in
    let first = c.scrub_dead.ensures.crash one e (c.in_ok-drop_extra.ensures.rests plain e but) in
    leaves_kept
    (rests_leave f.rules f.history e c.requires.legal (rests_leave f.rules f.history e c.requires.legal (c.drop_extra.ensures.crash plain e but) first)
    (c.scrub_dead-2.ensures.crash two e first.now))
    (c.sync.ensures.images three)

pub returns-clause-rests : goal.returns-clause-rests
returns-clause-rests g c =
    on_ok c.sync.result (λ stable again plain e but.
    let one = stays_plain c.drop_extra.ensures.kind plain in
    let two = stays_plain c.scrub_dead.ensures.kind one in
    let three = stays_plain c.scrub_dead-2.ensures.kind two in
    let first = c.scrub_dead.ensures.crash one e (c.in_ok-drop_extra.ensures.rests plain e but) in
    (leaves_kept (c.scrub_dead-2.ensures.crash two e first.now) (c.sync.ensures.images three)).now)
    c.sync.ensures.stable c.sync.ensures.stable

pub returns-clause-clean : goal.returns-clause-clean
returns-clause-clean g c =
    on_ok c.sync.result (λ stable again plain x image.
    let f = c.args.fold.now in
    let one = stays_plain c.drop_extra.ensures.kind plain in
    let two = stays_plain c.scrub_dead.ensures.kind one in
    let three = stays_plain c.scrub_dead-2.ensures.kind two in
    let standing = c.requires.standing plain in
    let e = standing.payloads in
    let first = c.scrub_dead.ensures.crash one e (c.in_ok-drop_extra.ensures.rests plain e standing.stand) in
    let second = c.scrub_dead-2.ensures.crash two e first.now in
    let seen = g.D.Disk.seen c.scrub_dead-2.new.disk in
    subst (Clean f.rules f.history) (sym (stable three x image))
    (clean_now f.rules f.history e (g.D.Disk.seen c.scrub_dead.new.disk) seen (second.now seen (g.met.D.Disk.reads_as_image c.scrub_dead-2.new.disk three))
    (c.in_ok-scrub_dead.ensures.zero one) (c.in_ok-scrub_dead-2.ensures.other_area two) (c.in_ok-scrub_dead-2.ensures.zero two)))
    c.sync.ensures.stable c.sync.ensures.stable
