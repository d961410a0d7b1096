use Rattle.std.proofs.Common.{inl}
use Rattle.delf_disk.proofs.Flags.{stays_plain, was_plain}
use Rattle.delf_disk.proofs.Moments.{leaves_widened}
use Rattle.delf_model.specs.Step.{after}
use Rattle.store_laws.proofs.Appends.{rest_stand}
use Rattle.delf_book.specs.Keeping.{payloads_in}
use Rattle.delf_book.proofs.Fetching.{areas_read}
use Rattle.delf_book.proofs.GoesBack.{waits_put}
use Rattle.delf_book.proofs.Writes.{leaves_joined}
use Rattle.delf_book.proofs.putting.put_back.Goals as goal

pub fetch_item-requires-clause-waits : goal.fetch_item-requires-clause-waits
fetch_item-requires-clause-waits g c =
    let l = c.args.ledger.now in
    waits_put l.rules l.history c.len-len.ensures.legal c.args.entry.now c.requires.legal c.args.i c.requires.puts

pub returns-in_err-size-clause-crash : goal.returns-in_err-size-clause-crash
returns-in_err-size-clause-crash g c = λ plain e rests.
    let l = c.args.ledger.now in
    leaves_widened (c.fetch_item.ensures.crash plain e rests) (λ x here. inl (rest_stand l.rules l.history e x c.len-len.ensures.legal here.0 here.1))

pub write_back-requires-clause-areas : goal.write_back-requires-clause-areas
write_back-requires-clause-areas g c = λ then.
    let plain = was_plain c.fetch_item.ensures.kind then in
    let l = c.args.ledger.now in
    let kept = c.requires.areas plain in
    let seen = g.D.Disk.seen c.args.disk.now in
    areas_read l.rules l.history seen (g.D.Disk.seen c.fetch_item.new.disk) (g.D.Disk.may_leave c.args.disk.now) (g.D.Disk.may_leave c.fetch_item.new.disk) kept (c.fetch_item.ensures.seen plain)
    (c.fetch_item.ensures.crash plain (payloads_in (after l.rules l.history) seen) kept.rests).now

pub write_back-requires-clause-payload : goal.write_back-requires-clause-payload
write_back-requires-clause-payload g c = λ then. c.in_ok-size.ensures.payload (was_plain c.fetch_item.ensures.kind then)

pub returns-in_err-write_back-clause-crash : goal.returns-in_err-write_back-clause-crash
returns-in_err-write_back-clause-crash g c = λ plain e rests.
    let l = c.args.ledger.now in
    let read = c.fetch_item.ensures.crash plain e rests in
    leaves_joined (leaves_widened read (λ x here. inl (rest_stand l.rules l.history e x c.len-len.ensures.legal here.0 here.1)))
    (c.write_back.ensures.crash (stays_plain c.fetch_item.ensures.kind plain) e read.now)

pub returns-clause-crash : goal.returns-clause-crash
returns-clause-crash g c = λ plain e rests.
    let l = c.args.ledger.now in
    let read = c.fetch_item.ensures.crash plain e rests in
    leaves_joined (leaves_widened read (λ x here. inl (rest_stand l.rules l.history e x c.len-len.ensures.legal here.0 here.1)))
    (c.write_back.ensures.crash (stays_plain c.fetch_item.ensures.kind plain) e read.now)

pub returns-clause-durable : goal.returns-clause-durable
returns-clause-durable g c = λ plain e rests.
    c.in_ok-write_back.ensures.durable (stays_plain c.fetch_item.ensures.kind plain) e (c.fetch_item.ensures.crash plain e rests).now
