use Rattle.std.proofs.Common.{ap, ◌∙◌}
use Rattle.delf_model.specs.Step.{after}
use Rattle.delf_model.specs.Order.{is_held}
use Rattle.job_table.specs.Table.{Table}
use Rattle.ledger.specs.Ledgers.{Ledgered}
use Rattle.ledger.proofs.Entering.{keeps_give_up}
use Rattle.ledger.proofs.Holding.{given_up_free, given_up_others}
use Rattle.ledger.proofs.ledger.Ledger.give_up.Goals as goal

pub invariant_of-self : goal.invariant_of-self
invariant_of-self g c =
    keeps_give_up c.self.inside.rules c.self.inside.history.list c.self.inside.jobs c.give_up.new.self (g.G.GraphStore.graph c.self.inside.graph) (g.G.GraphStore.counts c.self.inside.graph)
    c.args.step.now c.self.invariant c.give_up.ensures

pub returns-clause-free : goal.returns-clause-free
returns-clause-free g c =
    ap (λ (t : Table). is_held t.held c.args.step.now) c.give_up.ensures
    ∙ given_up_free (after c.self.inside.rules c.self.inside.history.list) c.self.inside.jobs.held c.args.step.now c.self.invariant.are_held

pub returns-clause-others : goal.returns-clause-others
returns-clause-others g c = λ other apart.
    ap (λ (t : Table). is_held t.held other) c.give_up.ensures
    ∙ given_up_others c.self.inside.jobs.held c.args.step.now other apart
    ∙ ap (λ (l : Ledgered g.row.G.Denot). is_held l.held other) c.self.view_is
