use Rattle.std.proofs.Common.{sym, ap, ◌∙◌}
use Rattle.delf_model.specs.declared.call.JobLine.{JobLine}
use Rattle.script_runner.proofs.Ages.{line_absent, line_met, line_other}
use Rattle.script_runner.proofs.readings.line_of.Goals as goal

pub returns-in_default : goal.returns-in_default
returns-in_default g c =
    let at = c.place_of-place in
    line_absent c.args.book.now.rules c.args.book.now.history c.len-len.ensures.legal c.args.job at.result at.ensures.before at.ensures.behind
    (sym c.in_default.is ∙ c.job_at.ensures.value)

pub returns-then-line-job : goal.returns-then-line-job
returns-then-line-job g c =
    let at = c.place_of-place in
    let start = ap (λ (l : JobLine). l.job) c.line.view_is in
    line_met c.args.book.now.rules c.args.book.now.history c.len-len.ensures.legal c.args.job at.result at.ensures.before at.ensures.behind
    c.in-Some.line (sym c.in-Some.is ∙ c.job_at.ensures.value) (sym start ∙ c.if-line-job.true ∙ c.job.view_is)

pub returns-else-line-job : goal.returns-else-line-job
returns-else-line-job g c =
    let at = c.place_of-place in
    let start = ap (λ (l : JobLine). l.job) c.line.view_is in
    line_other c.args.book.now.rules c.args.book.now.history c.len-len.ensures.legal c.args.job at.result at.ensures.before at.ensures.behind
    c.in-Some.line (sym c.in-Some.is ∙ c.job_at.ensures.value) (λ same. c.if-line-job.false (start ∙ same ∙ sym c.job.view_is))
