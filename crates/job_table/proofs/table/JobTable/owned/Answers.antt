use Rattle.std.proofs.Common.{◌∙◌, ap}
use Rattle.job_table.specs.Table.{Table, owned_among}
use Rattle.job_table.proofs.table.JobTable.owned.Goals as goal

pub returns : goal.returns
returns c = λ s h. c.owned.ensures ∙ ap (λ (t : Table). owned_among t.owners c.args.job) c.self.view_is ∙ h.owned c.args.job
