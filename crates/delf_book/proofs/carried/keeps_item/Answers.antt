use Rattle.delf_book.proofs.Lives.{tells_item}
use Rattle.delf_book.proofs.carried.keeps_item.Goals as goal

pub returns : goal.returns
returns g c =
    let l = c.args.ledger.now in
    tells_item l.rules l.history c.len-len.ensures.legal c.args.i c.keeps_payload.result c.keeps_payload.ensures.item c.keeps_payload.ensures.none
