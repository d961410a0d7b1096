use Rattle.std.proofs.Common.{◌≡◌, List, length, sym, ap, ◌∙◌, arith}
use Rattle.std.proofs.lemmas.Result.{IfOk-weaker}
use Rattle.ledger.proofs.Entering.{len_after}
use Rattle.delf_model.specs.declared.call.JobLine.{JobLine}
use Rattle.job_report.specs.Texts.{report_text}
use Rattle.delf_book.specs.Books.{state_in}
use Rattle.script_runner.proofs.Told.{report_told}
use Rattle.script_runner.proofs.jobs.report_text.Goals as goal

pub returns : goal.returns
returns g c =
    let objects : c.len.result ≡ length c.in_ok-objects.objects.items = omega arith in
    let edges : c.len-2.result ≡ length c.in_ok-edges.edges.items = omega arith in
    IfOk-weaker c.report_json.result _ _ (λ text said. report_told (state_in c.args.book.now) c.in_ok-objects.objects.items c.in_ok-edges.edges.items
    c.in_ok-jobs.jobs c.len.result c.len-2.result c.len-3.result text c.in_ok-objects.ensures.rows c.in_ok-edges.ensures.rows c.in_ok-jobs.ensures.lines
    objects edges (c.len-3.ensures.value ∙ sym (len_after c.args.book.now.rules c.args.book.now.history))
    (said ∙ ap (λ (ls : List JobLine). report_text c.len.result c.len-2.result c.len-3.result ls) c.as_slice.ensures)) c.report_json.ensures
