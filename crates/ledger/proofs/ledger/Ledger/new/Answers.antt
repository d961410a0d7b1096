use Rattle.ledger.proofs.Entering.{keeps_blank}
use Rattle.ledger.proofs.ledger.Ledger.new.Goals as goal

pub invariant_of-result : goal.invariant_of-result
invariant_of-result g c =
    keeps_blank c.args.rules c.new.result.list c.empty.result (g.G.GraphStore.graph c.args.graph) (g.G.GraphStore.counts c.args.graph)
    c.new.ensures (c.empty.ensures.table c.args.rules) c.empty.ensures.held c.requires.blank c.requires.counts
