use Rattle.delf_book.proofs.Lives.{tells_entry, tells_none}
use Rattle.delf_book.proofs.carried.keeps_entry.Goals as goal

pub returns-in-Some : goal.returns-in-Some
returns-in-Some g c =
    let l = c.args.ledger.now in
    tells_entry l.rules l.history c.len-len.ensures.legal c.args.i c.in-Some.what c.record_of_row.result c.is_record.result c.in-Some.ensures c.record_of_row.ensures c.is_record.ensures

pub returns-in-None : goal.returns-in-None
returns-in-None g c = let l = c.args.ledger.now in tells_none l.rules l.history c.len-len.ensures.legal c.args.i c.in-None.ensures
