use Rattle.std.proofs.lemmas.Result.{IfOk-weaker}
use Rattle.script_runner.proofs.Keeping.{edges_are, edges_if, edges_count}
use Rattle.script_runner.proofs.readings.edges.Goals as goal

pub returns-clause-rows : goal.returns-clause-rows
returns-clause-rows g c = IfOk-weaker c.edges.result _ _ (λ rows is. edges_are c.args.book.now.rules c.args.book.now.history
    _ rows.items c.graph.ensures.of.graph is) c.edges.ensures

pub returns-clause-numbered : goal.returns-clause-numbered
returns-clause-numbered g c = IfOk-weaker c.edges.result _ _ (λ rows is. edges_if c.args.book.now.rules c.args.book.now.history
    _ rows.items c.len-len.ensures.legal c.graph.ensures.of.graph is) c.edges.ensures

pub returns-clause-few : goal.returns-clause-few
returns-clause-few g c = IfOk-weaker c.edges.result _ _ (λ rows is. edges_count c.args.book.now.rules c.args.book.now.history
    _ rows.items c.len-len.ensures.legal c.graph.ensures.of.graph is) c.edges.ensures
