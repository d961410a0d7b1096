use Rattle.std.proofs.Common.{ℕ, ◌++◌, length, List, [], ◌∷◌, inl, ap, ◌∙◌, arith}
use Rattle.delf_disk.specs.Plain.{Plain}
use Rattle.delf_disk.proofs.Flags.{stays_plain, was_plain}
use Rattle.delf_disk.proofs.Moments.{leaves_widened}
use Rattle.gate_log.specs.Records.{Record}
use Rattle.delf_model.specs.State.{start}
use Rattle.delf_model.specs.Step.{after}
use Rattle.delf_model.specs.Payloads.{Payloads}
use Rattle.store_laws.specs.Moves.{RestIn}
use Rattle.delf_book.specs.Keeping.{payloads_in}
use Rattle.delf_book.specs.Writing.{Writes}
use Rattle.delf_book.proofs.Sizes.{journal_in, vault_in, length_journal_sizes}
use Rattle.delf_book.proofs.Writes.{on_ok, leaves_joined}
use Rattle.delf_book.proofs.RowRecords.{digest_long, row_sizes, row_writes, journal_stays, scrubbed_stays}
use Rattle.delf_book.proofs.erasing.write_row.Given as given
use Rattle.delf_book.proofs.erasing.write_row.Goals as goal

pub log_item-requires-clause-stands : goal.log_item-requires-clause-stands
log_item-requires-clause-stands g c = λ plain.
    let l = c.args.ledger.now in
    vault_in l.rules l.history c.args.journal.now c.args.vault.now (g.D.Disk.may_leave c.args.disk.now) c.requires.logs
    (payloads_in (after l.rules l.history) (g.D.Disk.seen c.args.disk.now)) (c.requires.areas plain).rests

pub returns-in_err-log_item-clause-crash : goal.returns-in_err-log_item-clause-crash
returns-in_err-log_item-clause-crash g c = λ plain e rests.
    leaves_widened (c.log_item.ensures.crash plain c.args.ledger.now.rules c.args.ledger.now.history e c.len-len.ensures.legal rests) (λ x but. inl but)

pub write_over-requires-clause-inside : goal.write_over-requires-clause-inside
write_over-requires-clause-inside g c =
    let l = c.args.ledger.now in
    omega (arith, c.requires.inside, ap length c.requires.logs.journal_is, length_journal_sizes (start l.rules) l.history)

pub write_over-requires-clause-stands : goal.write_over-requires-clause-stands
write_over-requires-clause-stands g c = λ plain x image.
    let l = c.args.ledger.now in
    let was = was_plain c.log_item.ensures.kind plain in
    let e = payloads_in (after l.rules l.history) (g.D.Disk.seen c.args.disk.now) in
    let rests = (c.requires.areas was).rests in
    let old = g.met.D.Disk.reads_as_image c.args.disk.now was in
    journal_stays l.rules l.history e (record { head = c.head.result.now; payload = c.payload.result.now }) c.args.journal.now.area c.args.journal.now.sizes (g.D.Disk.seen c.args.disk.now) x c.requires.logs.journal_area
    (journal_in l.rules l.history c.args.journal.now c.args.vault.now (g.D.Disk.may_leave c.args.disk.now) c.requires.logs e rests (g.D.Disk.seen c.args.disk.now) old)
    (c.in_ok-log_item.ensures.done was l.rules l.history e c.len-len.ensures.legal rests x image)

-- what the record of the entry is written over
written : (g : given.Over) (c : goal.After-write_over g) → Plain (g.D.Disk.told c.args.disk.now) (g.D.Disk.honest c.args.disk.now) → (e : Payloads) →
    RestIn c.args.ledger.now.rules c.args.ledger.now.history e (g.D.Disk.may_leave c.args.disk.now) →
    Writes c.args.ledger.now.rules c.args.ledger.now.history e c.args.entry.now [] (record { head = c.head.result.now; payload = c.payload.result.now } ∷ []) [] (g.D.Disk.may_leave c.log_item.new.disk)
written g c plain e rests =
    let l = c.args.ledger.now in
    let added : Record = record { head = c.head.result.now; payload = c.payload.result.now } in
    let old = g.met.D.Disk.reads_as_image c.args.disk.now plain in
    row_writes l.rules l.history e c.args.entry.now c.args.row.now added c.args.carrier (g.D.Disk.seen c.args.disk.now) c.len-len.ensures.legal c.requires.legal c.requires.row c.requires.size c.requires.carrier
    (rests (g.D.Disk.seen c.args.disk.now) old).1 (c.requires.payload plain) c.head.ensures.head c.payload.ensures.payload
    (digest_long c.args.row.now _ c.head.result.now _ c.head.ensures.item c.head.ensures.head) (g.D.Disk.may_leave c.log_item.new.disk)
    (c.in_ok-log_item.ensures.done plain l.rules l.history e c.len-len.ensures.legal rests)

pub returns-clause-crash : goal.returns-clause-crash
returns-clause-crash g c = λ plain e rests.
    let l = c.args.ledger.now in
    leaves_joined (leaves_widened (c.log_item.ensures.crash plain l.rules l.history e c.len-len.ensures.legal rests) (λ x but. inl but))
    (c.write_over.ensures.crash (stays_plain c.log_item.ensures.kind plain) l.rules l.history e [] _ (written g c plain e rests) c.requires.carrier)

pub returns-clause-durable : goal.returns-clause-durable
returns-clause-durable g c =
    on_ok c.write_over.result (λ done again plain e rests.
    let l = c.args.ledger.now in
    done (stays_plain c.log_item.ensures.kind plain) l.rules l.history e [] _ (written g c plain e rests) c.requires.carrier)
    c.write_over.ensures.done c.write_over.ensures.done

pub returns-clause-clean : goal.returns-clause-clean
returns-clause-clean g c =
    on_ok c.write_over.result (λ clean again plain.
    let l = c.args.ledger.now in
    let added : Record = record { head = c.head.result.now; payload = c.payload.result.now } in
    let e = payloads_in (after l.rules l.history) (g.D.Disk.seen c.args.disk.now) in
    let kept = c.requires.areas plain in
    let mid = stays_plain c.log_item.ensures.kind plain in
    clean mid l.rules l.history e [] (added ∷ []) (written g c plain e kept.rests) c.requires.carrier
    (scrubbed_stays l.rules l.history e added (g.D.Disk.seen c.args.disk.now) (g.D.Disk.seen c.log_item.new.disk)
    (c.in_ok-log_item.ensures.done plain l.rules l.history e c.len-len.ensures.legal kept.rests (g.D.Disk.seen c.log_item.new.disk) (g.met.D.Disk.reads_as_image c.log_item.new.disk mid))
    kept.clean.scrubbed))
    c.write_over.ensures.clean c.write_over.ensures.clean

pub returns-clause-vault_sizes : goal.returns-clause-vault_sizes
returns-clause-vault_sizes g c =
    on_ok c.write_over.result (λ one two.
    let l = c.args.ledger.now in
    c.in_ok-log_item.ensures.sizes ∙
    ap (λ (more : List (ℕ × ℕ)). c.args.vault.now.sizes ++ more)
    (row_sizes (after l.rules l.history) c.args.entry.now.what c.args.row.now c.head.result.now c.payload.result.now c.requires.row c.requires.size c.head.ensures.head c.payload.ensures.payload
    (digest_long c.args.row.now _ c.head.result.now _ c.head.ensures.item c.head.ensures.head)))
    c.write_over.ensures.sizes c.write_over.ensures.sizes
