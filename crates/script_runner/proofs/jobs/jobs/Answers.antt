use Rattle.std.proofs.Common.{ap, ◌∙◌, ◌++◌, List, ℕ, flat_map}
use Rattle.std.proofs.lemmas.Result.{IfOk-weaker}
use Rattle.job_report.specs.Texts.{job_text}
use Rattle.delf_book.specs.Books.{state_in}
use Rattle.script_runner.proofs.Told.{jobs_told}
use Rattle.script_runner.proofs.jobs.jobs.Goals as goal

pub returns : goal.returns
returns g c = IfOk-weaker c.joined.result _ _ (λ text said. jobs_told (state_in c.args.book.now) c.in_ok-lines.lines c.len.result c.in_ok-count.count c.in_ok-rows.rows text
    c.in_ok-lines.ensures.lines c.len.ensures c.in_ok-count.ensures (c.in_ok-rows.ensures ∙ ap (flat_map job_text) c.as_slice.ensures)
    (said ∙ ap (λ (t : List ℕ). t ++ c.as_slice-3.result.now) c.as_slice-2.ensures ∙ ap (λ (t : List ℕ). c.in_ok-count.count ++ t) c.as_slice-3.ensures)) c.joined.ensures
