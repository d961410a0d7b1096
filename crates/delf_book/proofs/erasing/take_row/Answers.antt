use Rattle.std.proofs.Common.{[], sym, ap, ◌∙◌, subst}
use Rattle.delf_disk.proofs.Flags.{stays_plain, was_plain}
use Rattle.delf_disk.specs.Areas.{Areas}
use Rattle.delf_model.specs.Step.{after}
use Rattle.delete_step.specs.Claims.{ClaimView}
use Rattle.std.specs.Prelude.{Some}
use Rattle.delf_book.specs.Claims.{IsRead}
use Rattle.delf_book.specs.Keeping.{payloads_in}
use Rattle.delf_book.proofs.Fetching.{areas_read}
use Rattle.delf_book.proofs.Writes.{leaves_joined}
use Rattle.delf_book.proofs.RowRecords.{read_leaves, read_rests}
use Rattle.delf_book.proofs.erasing.take_row.Goals as goal

pub returns-in_err-row-clause-crash : goal.returns-in_err-row-clause-crash
returns-in_err-row-clause-crash g c = λ plain e rests.
    let l = c.args.ledger.now in
    read_leaves l.rules l.history e c.args.entry.now [] c.len-len.ensures.legal rests (c.read_taken.ensures.any_moment plain)

pub write_taken-requires-clause-areas : goal.write_taken-requires-clause-areas
write_taken-requires-clause-areas g c = λ plain.
    let l = c.args.ledger.now in
    let was = was_plain c.read_taken.ensures.kind plain in
    let kept = c.requires.areas was in
    areas_read l.rules l.history (g.D.Disk.seen c.args.disk.now) (g.D.Disk.seen c.read_taken.new.disk) (g.D.Disk.may_leave c.args.disk.now) (g.D.Disk.may_leave c.read_taken.new.disk) kept
    (c.read_taken.ensures.seen was)
    (read_rests l.rules l.history (payloads_in (after l.rules l.history) (g.D.Disk.seen c.args.disk.now)) kept.rests (c.read_taken.ensures.any_moment was))

pub write_taken-requires-clause-row : goal.write_taken-requires-clause-row
write_taken-requires-clause-row g c =
    let l = c.args.ledger.now in
    c.in_ok-row.ensures.logs ∙ ap (λ (claim : ClaimView). Some claim.item) (sym c.prepare.ensures)

pub write_taken-requires-clause-payload : goal.write_taken-requires-clause-payload
write_taken-requires-clause-payload g c = λ plain.
    let l = c.args.ledger.now in
    let was = was_plain c.read_taken.ensures.kind plain in
    subst (λ (areas : Areas). IsRead (payloads_in (after l.rules l.history) areas) c.prepare.result) (sym (c.read_taken.ensures.seen was))
    (subst (IsRead (payloads_in (after l.rules l.history) (g.D.Disk.seen c.args.disk.now))) (sym c.prepare.ensures) (c.in_ok-row.ensures.payload was))

pub returns-in_err-write_taken-clause-crash : goal.returns-in_err-write_taken-clause-crash
returns-in_err-write_taken-clause-crash g c = λ plain e rests.
    let l = c.args.ledger.now in
    leaves_joined (read_leaves l.rules l.history e c.args.entry.now [] c.len-len.ensures.legal rests (c.read_taken.ensures.any_moment plain))
    (c.write_taken.ensures.crash (stays_plain c.read_taken.ensures.kind plain) e (read_rests l.rules l.history e rests (c.read_taken.ensures.any_moment plain)))

pub returns-clause-crash : goal.returns-clause-crash
returns-clause-crash g c = λ plain e rests.
    let l = c.args.ledger.now in
    leaves_joined (read_leaves l.rules l.history e c.args.entry.now [] c.len-len.ensures.legal rests (c.read_taken.ensures.any_moment plain))
    (c.write_taken.ensures.crash (stays_plain c.read_taken.ensures.kind plain) e (read_rests l.rules l.history e rests (c.read_taken.ensures.any_moment plain)))

pub returns-clause-durable : goal.returns-clause-durable
returns-clause-durable g c = λ plain e rests.
    let l = c.args.ledger.now in
    c.in_ok-write_taken.ensures.durable (stays_plain c.read_taken.ensures.kind plain) e (read_rests l.rules l.history e rests (c.read_taken.ensures.any_moment plain))

pub returns-clause-areas : goal.returns-clause-areas
returns-clause-areas g c = λ plain. c.in_ok-write_taken.ensures.areas (stays_plain c.read_taken.ensures.kind plain)
