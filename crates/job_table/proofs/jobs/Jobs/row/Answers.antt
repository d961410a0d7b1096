use Rattle.job_table.proofs.Places.{row_some, row_none}
use Rattle.job_table.proofs.jobs.Jobs.row.Goals as goal

pub returns-in-Some : goal.returns-in-Some
returns-in-Some c =
    row_some c.self.inside.rows.items c.deref.result.now c.args.self.now _ c.args.job c.in-Some.i c.index.result.now
    c.deref.ensures.value c.self.view_is c.in-Some.ensures c.index.ensures

pub returns-in-None : goal.returns-in-None
returns-in-None c =
    row_none c.self.inside.rows.items c.deref.result.now c.args.self.now _ c.args.job c.deref.ensures.value c.self.view_is c.in-None.ensures
