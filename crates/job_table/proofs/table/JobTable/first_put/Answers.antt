use Rattle.std.proofs.Common.{◌≡◌, ◌∙◌, ap, sym}
use Rattle.delf_model.specs.Order.{put_of, last_place}
use Rattle.job_table.specs.Items.{is_unhandled_of}
use Rattle.job_table.specs.Table.{Table}
use Rattle.job_table.proofs.Oldest.{put_at_front, none_at_front}
use Rattle.job_table.proofs.table.JobTable.first_put.Goals as goal

pub returns-in-Some : goal.returns-in-Some
returns-in-Some c =
    λ s h. let jobs : c.self.inside.jobs.list ≡ s.jobs = ap (λ (t : Table). t.jobs) c.self.view_is ∙ h.jobs in
    let items : c.self.inside.items.list ≡ s.items = ap (λ (t : Table). t.items) c.self.view_is ∙ h.items in
    c.put_of.ensures ∙ ap (λ (t : Table). put_of c.in-Some.pair.0 (last_place (is_unhandled_of c.in-Some.pair.0) 0 t.items)) (sym c.self.view_is)
    ∙ put_at_front s c.self.inside.restoring.list c.self.inside.jobs.list c.self.inside.items.list c.in-Some.pair h.keeps jobs items c.self.invariant.1 c.in-Some.ensures.rise c.in-Some.ensures.value

pub returns-in-None : goal.returns-in-None
returns-in-None c =
    λ s h. let jobs : c.self.inside.jobs.list ≡ s.jobs = ap (λ (t : Table). t.jobs) c.self.view_is ∙ h.jobs in
    let items : c.self.inside.items.list ≡ s.items = ap (λ (t : Table). t.items) c.self.view_is ∙ h.items in
    none_at_front s c.self.inside.restoring.list c.self.inside.jobs.list c.self.inside.items.list h.keeps jobs items c.self.invariant.1 c.in-None.ensures.value
