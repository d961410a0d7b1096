use Rattle.script_runner.proofs.Keeping.{listed_if}
use Rattle.script_runner.proofs.readings.listed_before.Goals as goal

pub returns-clause-numbered : goal.returns-clause-numbered
returns-clause-numbered g c = listed_if c.args.book.now.rules c.args.book.now.history
    c.args.job c.args.below c.listed_before.result c.len-len.ensures.legal c.listed_before.ensures.value
