use Rattle.std.proofs.Common.{◌≡◌, ◌∙◌, ap, false}
use Rattle.std.proofs.lemmas.Result.{IfOk-weaker}
use Rattle.serde_json.specs.View.{view}
use Rattle.serde_json.specs.Written.{has_float, compact_text}
use Rattle.job_report.proofs.Floats.{has_float-report}
use Rattle.job_report.proofs.report.report_string.Goals as goal

pub returns : goal.returns
returns c =
    let plain : has_float (view c.in_ok-report_value.field-0) ≡ false = rw c.in_ok-report_value.ensures (has_float-report c.args.objects c.args.edges c.args.history c.args.jobs.now) in
    IfOk-weaker c.to_string.result _ _ (λ text h. h plain ∙ ap compact_text c.in_ok-report_value.ensures) c.to_string.ensures.text
