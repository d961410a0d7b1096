use Rattle.std.proofs.Common.{sym, ap, ◌∙◌}
use Rattle.delf_model.specs.Step.{after}
use Rattle.delf_book.specs.Writing.{dead_carriers}
use Rattle.delf_book.proofs.Taking.{scrubs_row, scrubs_some}
use Rattle.delf_book.proofs.erasing.carrying_record.Goals as goal

pub dead_record-requires-clause-rows : goal.dead_record-requires-clause-rows
dead_record-requires-clause-rows g c =
    let l = c.args.ledger.now in
    scrubs_row (after l.rules l.history) c.args.entry.now.what c.requires.taken

pub unreachable-requires : goal.unreachable-requires
unreachable-requires g c =
    let l = c.args.ledger.now in
    scrubs_some l.rules l.history c.args.entry.now c.len-len.ensures.legal c.requires.legal c.requires.taken (sym (ap dead_carriers c.in-None.is) ∙ c.dead_record.ensures.dead)

pub returns-clause-carrier : goal.returns-clause-carrier
returns-clause-carrier g c = sym (ap dead_carriers c.in-Some.is) ∙ c.dead_record.ensures.dead
