use Rattle.std.proofs.Common.{length, refl, sym, ap, ◌∙◌, arith}
use Rattle.delf_model.specs.declared.rows.Item.{Item}
use Rattle.delf_model.specs.State.{start, position_of}
use Rattle.delf_model.specs.Payloads.{payload_at}
use Rattle.delf_model.specs.Step.{after}
use Rattle.delf_book.specs.Keeping.{payloads_in}
use Rattle.delf_book.proofs.Sizes.{journal_in, length_journal_sizes}
use Rattle.delf_book.proofs.Taking.{carried_at, sized_at}
use Rattle.delf_book.proofs.RowRecords.{read_there}
use Rattle.delf_book.proofs.Claiming.{payload_stands}
use Rattle.delf_book.proofs.erasing.read_taken.Goals as goal

pub read_row-requires-clause-inside : goal.read_row-requires-clause-inside
read_row-requires-clause-inside g c =
    let l = c.args.ledger.now in
    omega (arith, c.carrying_record-carrier.ensures.inside, ap length c.requires.logs.journal_is, length_journal_sizes (start l.rules) l.history)

pub read_row-requires-clause-payload : goal.read_row-requires-clause-payload
read_row-requires-clause-payload g c =
    let l = c.args.ledger.now in
    let q = c.carrying_record-carrier.result in
    sized_at l.rules l.history c.args.logs.now.journal.sizes q _ c.requires.logs.journal_is c.carrying_record-carrier.ensures.inside
    (c.row_of-item.ensures.sized q (carried_at (after l.rules l.history) c.args.entry.now.what c.row_of-item.result q c.row_of-item.ensures.row c.carrying_record-carrier.ensures.carrier))

pub read_row-requires-clause-stands : goal.read_row-requires-clause-stands
read_row-requires-clause-stands g c = λ plain.
    let l = c.args.ledger.now in
    journal_in l.rules l.history c.args.logs.now.journal c.args.logs.now.vault (g.D.Disk.may_leave c.args.disk.now) c.requires.logs
    (payloads_in (after l.rules l.history) (g.D.Disk.seen c.args.disk.now)) (c.requires.areas plain).rests

pub returns-clause-payload : goal.returns-clause-payload
returns-clause-payload g c = λ plain.
    let l = c.args.ledger.now in
    let q = c.carrying_record-carrier.result in
    let seen = g.D.Disk.seen c.args.disk.now in
    let images = g.D.Disk.may_leave c.args.disk.now in
    let e = payloads_in (after l.rules l.history) seen in
    let rests = (c.requires.areas plain).rests in
    let image = g.met.D.Disk.reads_as_image c.args.disk.now plain in
    ap (λ (it : Item). payload_at e (position_of it)) c.in_ok-row.ensures.item ∙
    (payload_stands l.rules l.history seen images c.args.entry.now.what c.row_of-item.result q c.len-len.ensures.legal image rests c.row_of-item.ensures.logs c.carrying_record-carrier.ensures.carrier ∙
    sym (read_there c.args.logs.now.journal.area c.args.logs.now.journal.sizes q c.in_ok-row.row.payload seen seen c.requires.logs.journal_area
    (journal_in l.rules l.history c.args.logs.now.journal c.args.logs.now.vault images c.requires.logs e rests seen image) (rests seen image).0.journal (c.in_ok-row.ensures.payload plain) refl))
