use Rattle.std.proofs.Common.{ℕ, ◌≤◌, take, subst, sym}
use Rattle.delf_disk.proofs.Flags.{stays_plain}
use Rattle.delf_model.specs.Step.{after}
use Rattle.delf_model.specs.Room.{payload_limit}
use Rattle.delf_book.specs.Keeping.{payloads_in}
use Rattle.delf_book.proofs.Fetching.{short_here, size_of_waiting, stands_here, fetched_payload, fetched_seal, tells_why, if_ok, on_if_ok, if_err}
use Rattle.delf_book.proofs.putting.fetch_item.Goals as goal

pub fetch-requires-clause-payload : goal.fetch-requires-clause-payload
fetch-requires-clause-payload g c =
    let l = c.args.ledger.now in
    short_here l.rules l.history c.len-len.ensures.legal c.args.i c.requires.waits c.args.vault.now.sizes c.requires.sizes

pub fetch-requires-clause-stands : goal.fetch-requires-clause-stands
fetch-requires-clause-stands g c = λ plain.
    let l = c.args.ledger.now in
    stands_here l.rules l.history (payloads_in (after l.rules l.history) (g.D.Disk.seen c.args.disk.now)) (g.D.Disk.may_leave c.args.disk.now) (c.requires.areas plain).rests
    c.args.vault.now.area c.requires.area c.args.vault.now.sizes c.requires.sizes

pub returns-clause-size : goal.returns-clause-size
returns-clause-size g c =
    let l = c.args.ledger.now in
    if_ok c.fetch.result (λ n is. size_of_waiting l.rules l.history c.len-len.ensures.legal c.args.i c.requires.waits c.args.vault.now.sizes c.requires.sizes n is) c.fetch.ensures.length

pub returns-clause-short : goal.returns-clause-short
returns-clause-short g c =
    let l = c.args.ledger.now in
    if_ok c.fetch.result (λ n is. subst (λ (m : ℕ). m ≤ payload_limit) (sym is) (short_here l.rules l.history c.len-len.ensures.legal c.args.i c.requires.waits c.args.vault.now.sizes c.requires.sizes))
    c.fetch.ensures.length

pub returns-clause-payload : goal.returns-clause-payload
returns-clause-payload g c =
    let l = c.args.ledger.now in
    if_ok c.fetch.result (λ n fetched plain e rests.
    let seen = g.D.Disk.seen c.args.disk.now in
    let image = subst (g.D.Disk.may_leave c.fetch.new.disk) (c.fetch.ensures.seen plain) (g.met.D.Disk.reads_as_image c.fetch.new.disk (stays_plain c.fetch.ensures.kind plain)) in
    fetched_payload l.rules l.history e seen (rests seen image) c.args.i c.requires.waits c.args.vault.now.area c.requires.area c.args.vault.now.sizes c.requires.sizes
    (take n c.fetch.new.buf) (fetched plain)) c.fetch.ensures.fetched

pub returns-clause-sealed : goal.returns-clause-sealed
returns-clause-sealed g c =
    let l = c.args.ledger.now in
    on_if_ok c.fetch.result (λ n fetched plain e rests.
    let seen = g.D.Disk.seen c.args.disk.now in
    fetched_seal l.rules l.history e seen (rests seen (g.met.D.Disk.reads_as_image c.args.disk.now plain)) c.args.i c.requires.waits c.args.vault.now.area c.requires.area c.args.vault.now.sizes c.requires.sizes
    (take n c.fetch.new.buf) (fetched plain)) c.fetch.ensures.fetched

pub returns-clause-damaged : goal.returns-clause-damaged
returns-clause-damaged g c =
    let l = c.args.ledger.now in
    if_err c.fetch.result (λ fault differs compared plain e rests.
    let seen = g.D.Disk.seen c.args.disk.now in
    tells_why l.rules l.history e seen (rests seen (g.met.D.Disk.reads_as_image c.args.disk.now plain)) c.args.i c.requires.waits c.args.vault.now.area c.requires.area c.args.vault.now.sizes c.requires.sizes
    _ fault differs (compared plain)) c.fetch.ensures.differs c.fetch.ensures.damaged
