use Rattle.std.proofs.Common.{sym, ap, ◌∙◌}
use Rattle.delf_model.specs.Graph.{PutsEdge}
use Rattle.delf_model.specs.Step.{change_of}
use Rattle.ledger.proofs.edit.edit_of.Goals as goal

pub returns-in-Link : goal.returns-in-Link
returns-in-Link g c =
    λ s t i.
    ap PutsEdge (c.new_edge.ensures s (c.len-len.ensures.state s t)) ∙ ap (change_of s c.args.entry.now.moment) (sym c.in-Link.is)
