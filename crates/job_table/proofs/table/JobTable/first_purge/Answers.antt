use Rattle.std.proofs.Common.{◌∙◌, ◌<◌, ap, sym, subst, get_or}
use Rattle.std.specs.List.{position, list_any}
use Rattle.job_table.specs.Waits.{has_waited}
use Rattle.job_table.proofs.Purges.{none_over, front_over}
use Rattle.job_table.specs.Fresh.{is_fresh}
use Rattle.job_table.specs.Table.{Table, owned_among}
use Rattle.job_table.specs.Serial.{purges_in}
use Rattle.job_table.proofs.Firsts.{purge_found, purge_missing}
use Rattle.job_table.proofs.table.JobTable.first_purge.Goals as goal

pub returns-in-Some : goal.returns-in-Some
returns-in-Some c =
    λ s h w.
    purge_found s c.args.self.now c.rows-rows.result.now h (c.rows-rows.ensures ∙ ap (λ (t : Table). t.jobs) c.self.view_is) c.args.window c.args.moment c.in-Some.i (get_or c.rows-rows.result.now c.in-Some.i c.index-rows-i.result) w
    (c.in-Some.ensures ∙ ap (λ (t : Table). position (purges_in t.owners t.items c.args.window c.args.moment) c.rows-rows.result.now) c.self.view_is) (ap (get_or c.rows-rows.result.now c.in-Some.i) c.index-rows-i.is)

pub returns-in-None : goal.returns-in-None
returns-in-None c =
    λ s h w. purge_missing s c.args.self.now c.rows-rows.result.now h (c.rows-rows.ensures ∙ ap (λ (t : Table). t.jobs) c.self.view_is) c.args.window c.args.moment w
    (c.in-None.ensures ∙ ap (λ (t : Table). position (purges_in t.owners t.items c.args.window c.args.moment) c.rows-rows.result.now) c.self.view_is)

pub returns-then-not-has_waited : goal.returns-then-not-has_waited
returns-then-not-has_waited c =
    λ s h w. none_over s c.args.self.now c.args.window c.args.moment h w
    (λ job f. subst (λ (t : Table). 0 < owned_among t.owners job) c.self.view_is (c.self.invariant.2 job (ap (λ (t : Table). is_fresh t.jobs job) c.self.view_is ∙ f)))
    (ap (λ (t : Table). list_any (has_waited c.args.window c.args.moment) t.jobs) (sym c.self.view_is) ∙ c.has_waited.ensures c.if-not-has_waited.true)

pub place_to_purge-requires : goal.place_to_purge-requires
place_to_purge-requires c = λ k d h. front_over c.rows-rows.result.now _ c.self.inside.owners.list c.self.inside.items.list c.args.window c.args.moment c.front-front.result c.rows-rows.ensures c.front-front.ensures.purged k d h
