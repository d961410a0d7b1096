use Rattle.std.proofs.Common.{ap}
use Rattle.job_table.specs.Parts.{JobPart}
use Rattle.job_table.proofs.WaitingJobs.{front_purged}
use Rattle.job_table.proofs.jobs.Jobs.front.Goals as goal

pub returns-clause-purged : goal.returns-clause-purged
returns-clause-purged c =
    front_purged c.self.inside.rows.items c.args.self.now.list c.self.inside.front (ap (λ (m : JobPart). m.list) c.self.view_is) c.self.invariant.1.within c.self.invariant.1.purged
