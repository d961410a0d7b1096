use Rattle.std.proofs.Common.{◌≡◌, ℕ, take, refl, sym, ◌∙◌, subst, arith}
use Rattle.std.proofs.lemmas.Result.{IfOk-weaker}
use Rattle.delf_model.specs.Graph.{edge_at}
use Rattle.delf_model.specs.Payloads.{payload_at}
use Rattle.ledger.specs.Ledgers.{state_of}
use Rattle.delf_book.proofs.Stored.{edge_stored, edge_position, stored_size, stored_inside}
use Rattle.delf_book.proofs.reading.read_edge_at.Goals as goal

pub read_record-requires-clause-inside : goal.read_record-requires-clause-inside
read_record-requires-clause-inside g c =
    let l = c.args.ledger.now in
    let here = edge_stored l.rules l.history c.len-len.ensures.legal c.args.key c.in-Some.i c.in-Some.ensures.carrier in
    stored_inside l.rules l.history c.args.logs.now.journal.sizes c.in-Some.i here.row.birth here.row.size c.requires.logs.journal_is here.stored

pub read_record-requires-clause-fits : goal.read_record-requires-clause-fits
read_record-requires-clause-fits g c =
    let l = c.args.ledger.now in
    let here = edge_stored l.rules l.history c.len-len.ensures.legal c.args.key c.in-Some.i c.in-Some.ensures.carrier in
    let size = stored_size l.rules l.history c.args.logs.now.journal.sizes c.in-Some.i here.row.birth here.row.size c.requires.logs.journal_is here.stored in
    omega (arith, size, here.stored.small, c.requires.room)

pub read_record-requires-clause-short : goal.read_record-requires-clause-short
read_record-requires-clause-short g c =
    let l = c.args.ledger.now in
    let here = edge_stored l.rules l.history c.len-len.ensures.legal c.args.key c.in-Some.i c.in-Some.ensures.carrier in
    let size = stored_size l.rules l.history c.args.logs.now.journal.sizes c.in-Some.i here.row.birth here.row.size c.requires.logs.journal_is here.stored in
    omega (arith, size, here.stored.small)

pub returns-clause-size : goal.returns-clause-size
returns-clause-size g c =
    let l = c.args.ledger.now in
    let here = edge_stored l.rules l.history c.len-len.ensures.legal c.args.key c.in-Some.i c.in-Some.ensures.carrier in
    let size = stored_size l.rules l.history c.args.logs.now.journal.sizes c.in-Some.i here.row.birth here.row.size c.requires.logs.journal_is here.stored in
    IfOk-weaker c.read_record.result _ _ (λ n is. (here.row.birth, (here.row, here.there, refl, sym (is ∙ size)))) c.read_record.ensures.size

pub returns-clause-payload : goal.returns-clause-payload
returns-clause-payload g c =
    let l = c.args.ledger.now in
    let here = edge_stored l.rules l.history c.len-len.ensures.legal c.args.key c.in-Some.i c.in-Some.ensures.carrier in
    IfOk-weaker c.read_record.result _ _ (λ n read plain e rests at found.
    let same = edge_position (edge_at (state_of l).graph c.args.key) here.row at n here.there found in
    subst (λ (p : ℕ). take n c.read_record.new.buf ≡ payload_at e p) same (read plain l.rules l.history e rests here.row.birth here.stored.needed here.stored.carried))
    c.read_record.ensures.payload
