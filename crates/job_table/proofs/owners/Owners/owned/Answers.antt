use Rattle.std.proofs.Common.{◌≡◌, ◌∙◌, ap, arith}
use Rattle.job_table.specs.Parts.{OwnerPart}
use Rattle.job_table.specs.Table.{owned_among}
use Rattle.job_table.proofs.Owning.{counted_between}
use Rattle.job_table.proofs.owners.Owners.owned.Goals as goal

pub returns : goal.returns
returns c =
    let between = counted_between c.job.inside.0 c.place-start.result c.place-end.result c.self.inside.pairs.items c.place-start.ensures.bound c.place-end.ensures.bound
    c.place-start.ensures.before c.place-start.ensures.after c.place-end.ensures.before c.place-end.ensures.after in
    let same : owned_among c.self.inside.pairs.items c.job.inside.0 ≡ owned_among c.args.self.now.list c.args.job =
    ap (owned_among c.self.inside.pairs.items) c.job.view_is ∙ ap (λ (m : OwnerPart). owned_among m.list c.args.job) c.self.view_is in
    omega (arith, between, same)
