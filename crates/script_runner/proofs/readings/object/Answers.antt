use Rattle.script_runner.proofs.Keeping.{object_if}
use Rattle.script_runner.proofs.readings.object.Goals as goal

pub returns-clause-numbered : goal.returns-clause-numbered
returns-clause-numbered g c = object_if c.args.book.now.rules c.args.book.now.history
    _ c.args.id c.object.result c.len-len.ensures.legal c.graph.ensures.of.graph c.object.ensures
