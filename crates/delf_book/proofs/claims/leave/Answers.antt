use Rattle.delf_book.proofs.Claiming.{leaves_first, leaves_none}
use Rattle.delf_book.proofs.claims.leave.Goals as goal

pub returns-in-Some-clause-items : goal.returns-in-Some-clause-items
returns-in-Some-clause-items c =
    leaves_first c.args.claim.now c.args.claims.now.items c.deref.result.now c.remove.new.self.items c.in-Some.i
    c.deref.ensures.value (c.in-Some.ensures) c.remove.ensures.items

pub returns-in-None-clause-items : goal.returns-in-None-clause-items
returns-in-None-clause-items c =
    leaves_none c.args.claim.now c.args.claims.now.items c.deref.result.now c.deref.ensures.value (c.in-None.ensures)
