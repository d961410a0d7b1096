use Rattle.std.proofs.Common.{sym, ◌∙◌}
use Rattle.delf_service.specs.Standings.{standing_in}
use Rattle.delf_service.proofs.Books.{asks_none, asks_some}
use Rattle.delf_service.proofs.held.Held.ask.Goals as goal

pub returns-in_default : goal.returns-in_default
returns-in_default g c =
    asks_none (standing_in g.R.Disk c.args.self.now.book c.args.self.now.moment c.args.self.now.lanes) c.args.id c.len-at.result c.is_down.result c.fault_if-fault.result _ c.len-at.ensures.legal c.len-at.ensures.value
    (sym c.get.ensures ∙ c.in_default.is) c.is_down.ensures c.fault_if-fault.ensures c.standing.ensures.fell

pub returns : goal.returns
returns g c =
    asks_some g.R.Disk c.args.self.now.moment c.args.self.now.lanes c.args.self.now.book c.read_object.new.self c.args.id c.len-at.result c.in-Some.row c.read_object.result c.err-fault.result c.read_object.new.buf
    c.len-at.ensures.legal c.len-at.ensures.value (sym c.get.ensures ∙ c.in-Some.is) c.read_object.ensures.answer c.read_object.ensures.cause c.read_object.ensures.kind c.err-fault.ensures.value
    c.read_object.ensures.size c.read_object.ensures.payload c.standing-2.ensures.fell
