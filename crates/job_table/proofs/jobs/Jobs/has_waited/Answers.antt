use Rattle.std.proofs.Common.{sym, ap, ◌∙◌}
use Rattle.std.specs.List.{list_any}
use Rattle.job_table.specs.Parts.{JobPart}
use Rattle.job_table.specs.Waits.{has_waited}
use Rattle.job_table.proofs.WaitingJobs.{none_past_first, none_waits}
use Rattle.job_table.proofs.jobs.Jobs.has_waited.Goals as goal

pub returns-in-Some : goal.returns-in-Some
returns-in-Some c =
    λ n. ap (λ (m : JobPart). list_any (has_waited c.args.window c.args.moment) m.list) (sym c.self.view_is)
    ∙ none_past_first c.self.inside.rows.items c.self.inside.waiting.items _ _ _ c.self.invariant.1 c.self.invariant.0.rise c.in-Some.pair c.args.window c.args.moment c.is_past.result c.in-Some.ensures c.is_past.ensures n

pub returns-in-None : goal.returns-in-None
returns-in-None c =
    λ n. ap (λ (m : JobPart). list_any (has_waited c.args.window c.args.moment) m.list) (sym c.self.view_is)
    ∙ none_waits c.self.inside.rows.items c.self.inside.waiting.items _ _ _ c.self.invariant.1 c.self.invariant.0.rise c.args.window c.args.moment c.in-None.ensures
