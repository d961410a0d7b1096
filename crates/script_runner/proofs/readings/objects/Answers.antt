use Rattle.std.proofs.lemmas.Result.{IfOk-weaker}
use Rattle.script_runner.proofs.Keeping.{objects_are, objects_if, objects_count}
use Rattle.script_runner.proofs.readings.objects.Goals as goal

pub returns-clause-rows : goal.returns-clause-rows
returns-clause-rows g c = IfOk-weaker c.objects.result _ _ (λ rows is. objects_are c.args.book.now.rules c.args.book.now.history
    _ rows.items c.graph.ensures.of.graph is) c.objects.ensures

pub returns-clause-numbered : goal.returns-clause-numbered
returns-clause-numbered g c = IfOk-weaker c.objects.result _ _ (λ rows is. objects_if c.args.book.now.rules c.args.book.now.history
    _ rows.items c.len-len.ensures.legal c.graph.ensures.of.graph is) c.objects.ensures

pub returns-clause-few : goal.returns-clause-few
returns-clause-few g c = IfOk-weaker c.objects.result _ _ (λ rows is. objects_count c.args.book.now.rules c.args.book.now.history
    _ rows.items c.len-len.ensures.legal c.graph.ensures.of.graph is) c.objects.ensures
