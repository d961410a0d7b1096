use Rattle.std.proofs.Common.{◌≡◌, ℕ, ap, ◌∙◌, arith}
use Rattle.job_table.specs.Tallies.{tally_of}
use Rattle.delf_model.specs.Report.{is_of_job}
use Rattle.std.proofs.lemmas.List.Sums.{count_by-le-length}
use Rattle.job_table.proofs.Tallying.{parts_counted}
use Rattle.job_table.proofs.items.Items.of_job.Goals as goal

pub overflow_add-result : goal.overflow_add-result
overflow_add-result c =
    let told : c.tally-tally.result ≡ tally_of c.args.job c.args.self.now.list = c.tally-tally.ensures.value ∙ ap (λ (k : ℕ). tally_of k c.args.self.now.list) c.job.view_is in
    let sum = parts_counted c.args.job c.args.self.now.list c.tally-tally.result told in
    let below = count_by-le-length (is_of_job c.args.job) c.args.self.now.list in
    omega (arith, sum, below, c.tally-tally.ensures.fits)

pub returns : goal.returns
returns c =
    parts_counted c.args.job c.args.self.now.list c.tally-tally.result (c.tally-tally.ensures.value ∙ ap (λ (k : ℕ). tally_of k c.args.self.now.list) c.job.view_is)
