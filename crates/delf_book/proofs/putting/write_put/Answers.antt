use Rattle.std.proofs.Common.{[], length, refl}
use Rattle.delf_disk.proofs.Moments.{leaves_widened}
use Rattle.delf_disk.proofs.Flags.{stays_plain, was_plain}
use Rattle.delf_model.specs.Step.{after}
use Rattle.delf_model.specs.Payloads.{Vault}
use Rattle.delf_model.proofs.Lines.{moment_within}
use Rattle.payload_laws.specs.Holders.{scrubbed_by}
use Rattle.delf_book.specs.Keeping.{payloads_in}
use Rattle.delf_book.specs.Writing.{longer, next_payloads}
use Rattle.delf_book.proofs.Plainly.{clean_for, areas_longer}
use Rattle.delf_book.proofs.GoesBack.{put_writes, dead_of_put, size_of_put, none_taken, bounded_put, inside_vault}
use Rattle.delf_book.proofs.Sizes.{journal_in, vault_in, logs_longer}
use Rattle.delf_book.proofs.Writes.{on_ok, leaves_joined, rests_stand, dead_one, clean_one}
use Rattle.delf_book.proofs.putting.write_put.Goals as goal

pub write_record-requires-clause-moment : goal.write_record-requires-clause-moment
write_record-requires-clause-moment g c = let l = c.args.ledger.now in moment_within (after l.rules l.history) c.args.entry.now c.requires.legal

pub write_record-requires-clause-bounded : goal.write_record-requires-clause-bounded
write_record-requires-clause-bounded g c = let l = c.args.ledger.now in bounded_put (after l.rules l.history) c.args.entry.now.what c.args.i c.requires.puts

pub write_record-requires-clause-stands : goal.write_record-requires-clause-stands
write_record-requires-clause-stands g c = λ plain.
    let l = c.args.ledger.now in
    journal_in l.rules l.history c.args.journal.now c.args.vault.now (g.D.Disk.may_leave c.args.disk.now) c.requires.logs
    (payloads_in (after l.rules l.history) (g.D.Disk.seen c.args.disk.now)) (c.requires.areas plain).rests

pub returns-in_err-write_record-clause-crash : goal.returns-in_err-write_record-clause-crash
returns-in_err-write_record-clause-crash g c = λ plain e rests.
    let l = c.args.ledger.now in
    c.write_record.ensures.crash plain l.rules l.history e [] []
    (put_writes l.rules l.history e c.args.entry.now c.args.payload.now (g.D.Disk.may_leave c.args.disk.now) c.args.i c.len-len.ensures.legal c.requires.legal c.requires.puts c.requires.size
    (c.requires.payload plain e rests) rests)

pub scrub_item-requires-clause-inside : goal.scrub_item-requires-clause-inside
scrub_item-requires-clause-inside g c =
    let l = c.args.ledger.now in
    inside_vault (after l.rules l.history).items c.args.vault.now.sizes c.args.i c.requires.puts.0 c.requires.logs.vault_is c.requires.puts.1.there

pub scrub_item-requires-clause-stands : goal.scrub_item-requires-clause-stands
scrub_item-requires-clause-stands g c = λ then.
    let plain = was_plain c.write_record.ensures.kind then in
    let l = c.args.ledger.now in
    let entry = c.args.entry.now in
    let e = payloads_in (after l.rules l.history) (g.D.Disk.seen c.args.disk.now) in
    let rests = (c.requires.areas plain).rests in
    let writes = put_writes l.rules l.history e entry c.args.payload.now (g.D.Disk.may_leave c.args.disk.now) c.args.i c.len-len.ensures.legal c.requires.legal c.requires.puts c.requires.size
    (c.requires.payload plain e rests) rests in
    let logs = logs_longer l.rules l.history entry c.args.journal.now c.args.vault.now c.write_record.new.journal c.args.vault.now c.requires.logs c.write_record.ensures.area refl
    (length c.args.payload.now) (size_of_put (after l.rules l.history) entry.what c.args.i c.requires.puts (length c.args.payload.now) c.requires.size) c.in_ok-write_record.ensures.sizes refl
    (none_taken (after l.rules l.history) entry.what c.args.i c.requires.puts) in
    vault_in l.rules (longer l.history entry) c.write_record.new.journal c.args.vault.now (g.D.Disk.may_leave c.write_record.new.disk) logs (next_payloads l.rules l.history e entry [])
    (c.in_ok-write_record.ensures.done plain l.rules l.history e [] [] writes)

pub returns-clause-logs : goal.returns-clause-logs
returns-clause-logs g c =
    on_ok c.scrub_item.result (λ one two.
    let l = c.args.ledger.now in
    let entry = c.args.entry.now in
    logs_longer l.rules l.history entry c.args.journal.now c.args.vault.now c.write_record.new.journal c.scrub_item.new.vault c.requires.logs c.write_record.ensures.area c.scrub_item.ensures.area
    (length c.args.payload.now) (size_of_put (after l.rules l.history) entry.what c.args.i c.requires.puts (length c.args.payload.now) c.requires.size) c.in_ok-write_record.ensures.sizes c.scrub_item.ensures.sizes
    (none_taken (after l.rules l.history) entry.what c.args.i c.requires.puts)) c.scrub_item.ensures.scrubbed c.scrub_item.ensures.scrubbed

pub returns-clause-crash : goal.returns-clause-crash
returns-clause-crash g c = λ plain e rests.
    let l = c.args.ledger.now in
    let entry = c.args.entry.now in
    let s = after l.rules l.history in
    let writes = put_writes l.rules l.history e entry c.args.payload.now (g.D.Disk.may_leave c.args.disk.now) c.args.i c.len-len.ensures.legal c.requires.legal c.requires.puts c.requires.size
    (c.requires.payload plain e rests) rests in
    leaves_joined (c.write_record.ensures.crash plain l.rules l.history e [] [] writes)
    (leaves_widened (c.scrub_item.ensures.crash (stays_plain c.write_record.ensures.kind plain) l.rules (longer l.history entry) (next_payloads l.rules l.history e entry [])
    (c.in_ok-write_record.ensures.done plain l.rules l.history e [] [] writes)
    (dead_one l.rules l.history entry c.len-len.ensures.legal c.requires.legal (Vault c.args.i) (dead_of_put s entry.what c.args.i c.requires.puts)))
    (rests_stand l.rules l.history e entry [] c.len-len.ensures.legal c.requires.legal))

pub returns-clause-durable : goal.returns-clause-durable
returns-clause-durable g c =
    on_ok c.scrub_item.result (λ one two plain e rests.
    let l = c.args.ledger.now in
    let entry = c.args.entry.now in
    let s = after l.rules l.history in
    let writes = put_writes l.rules l.history e entry c.args.payload.now (g.D.Disk.may_leave c.args.disk.now) c.args.i c.len-len.ensures.legal c.requires.legal c.requires.puts c.requires.size
    (c.requires.payload plain e rests) rests in
    (c.scrub_item.ensures.crash (stays_plain c.write_record.ensures.kind plain) l.rules (longer l.history entry) (next_payloads l.rules l.history e entry [])
    (c.in_ok-write_record.ensures.done plain l.rules l.history e [] [] writes)
    (dead_one l.rules l.history entry c.len-len.ensures.legal c.requires.legal (Vault c.args.i) (dead_of_put s entry.what c.args.i c.requires.puts))).now)
    c.scrub_item.ensures.scrubbed c.scrub_item.ensures.scrubbed

pub returns-clause-areas : goal.returns-clause-areas
returns-clause-areas g c =
    on_ok c.scrub_item.result (λ scrubbed two plain.
    let l = c.args.ledger.now in
    let entry = c.args.entry.now in
    let s = after l.rules l.history in
    let kept = c.requires.areas plain in
    let e = payloads_in s (g.D.Disk.seen c.args.disk.now) in
    let writes = put_writes l.rules l.history e entry c.args.payload.now (g.D.Disk.may_leave c.args.disk.now) c.args.i c.len-len.ensures.legal c.requires.legal c.requires.puts c.requires.size
    (c.requires.payload plain e kept.rests) kept.rests in
    let then = stays_plain c.write_record.ensures.kind plain in
    let done = c.in_ok-write_record.ensures.done plain l.rules l.history e [] [] writes in
    let dead = dead_one l.rules l.history entry c.len-len.ensures.legal c.requires.legal (Vault c.args.i) (dead_of_put s entry.what c.args.i c.requires.puts) in
    areas_longer l.rules l.history entry [] e (g.D.Disk.seen c.scrub_item.new.disk) (g.D.Disk.may_leave c.scrub_item.new.disk) c.len-len.ensures.legal c.requires.legal
    (g.met.D.Disk.reads_as_image c.scrub_item.new.disk (stays_plain c.scrub_item.ensures.kind then))
    (c.scrub_item.ensures.crash then l.rules (longer l.history entry) (next_payloads l.rules l.history e entry []) done dead).now
    (clean_one (after l.rules (longer l.history entry)) (Vault c.args.i) (scrubbed_by s entry.what) (g.D.Disk.seen c.write_record.new.disk) (g.D.Disk.seen c.scrub_item.new.disk)
    (dead_of_put s entry.what c.args.i c.requires.puts)
    (c.in_ok-write_record.ensures.remains plain l.rules l.history e [] [] writes
    (clean_for l.rules l.history e (g.D.Disk.seen c.args.disk.now) (g.D.Disk.may_leave c.args.disk.now) (g.met.D.Disk.reads_as_image c.args.disk.now plain) kept.rests kept.clean))
    (scrubbed then l.rules (longer l.history entry) (next_payloads l.rules l.history e entry []) done dead)))
    c.scrub_item.ensures.scrubbed c.scrub_item.ensures.scrubbed
