use Rattle.std.proofs.Common.{refl}
use Rattle.ledger.proofs.Entering.{keeps_spare}
use Rattle.ledger.proofs.ledger.Ledger.reserve.Goals as goal

pub invariant_of-self : goal.invariant_of-self
invariant_of-self g c = keeps_spare _ _ c.self.inside.history.list _ c.reserve.new.self _ _ c.self.invariant c.reserve.ensures.same refl

pub invariant_of-self-in_err-reserve-2 : goal.invariant_of-self-in_err-reserve-2
invariant_of-self-in_err-reserve-2 g c =
    keeps_spare _ _ c.reserve-2.new.self.list _ c.reserve.new.self _ _ c.self.invariant c.reserve.ensures.same c.reserve-2.ensures.list

pub invariant_of-self-2 : goal.invariant_of-self-2
invariant_of-self-2 g c =
    keeps_spare _ _ c.reserve-2.new.self.list _ c.reserve.new.self _ _ c.self.invariant c.reserve.ensures.same c.reserve-2.ensures.list
