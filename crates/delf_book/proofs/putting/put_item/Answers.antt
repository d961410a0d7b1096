use Rattle.delf_model.specs.Step.{after}
use Rattle.delf_book.proofs.GoesBack.{no_size, no_dead, goes_not, goes_back}
use Rattle.delf_book.proofs.putting.put_item.Goals as goal

pub add-requires-clause-size : goal.add-requires-clause-size
add-requires-clause-size g c =
    let l = c.args.ledger.now in
    no_size (after l.rules l.history) c.args.entry.now.what c.args.i c.requires.put c.in-None.ensures

pub add-requires-clause-no_put : goal.add-requires-clause-no_put
add-requires-clause-no_put g c = λ puts.
    let l = c.args.ledger.now in
    goes_not (after l.rules l.history) c.args.entry.now.what c.args.i c.requires.put c.in-None.ensures puts.0 puts.1 puts.2.0 puts.2.1.0 puts.2.1.1 puts.2.1.2

pub add-requires-clause-dead : goal.add-requires-clause-dead
add-requires-clause-dead g c =
    let l = c.args.ledger.now in
    no_dead (after l.rules l.history) c.args.entry.now.what c.args.i c.requires.put c.in-None.ensures

pub returns-in_ok-add-in-None-clause-sealed : goal.returns-in_ok-add-in-None-clause-sealed
returns-in_ok-add-in-None-clause-sealed g c = λ plain e rests j logged puts.
    let l = c.args.ledger.now in
    absurd (goes_not (after l.rules l.history) c.args.entry.now.what c.args.i c.requires.put c.in-None.ensures puts.job j logged puts.is_put puts.there puts.back)

pub put_back-requires-clause-puts : goal.put_back-requires-clause-puts
put_back-requires-clause-puts g c =
    let l = c.args.ledger.now in
    goes_back (after l.rules l.history) c.args.entry.now.what c.args.i c.in-Some.field-0 c.requires.put c.in-Some.ensures
