use Rattle.std.proofs.Common.{◌++◌, append_assoc, refl}
use Rattle.std.specs.Prelude.{decimal}
use Rattle.job_report.specs.Words.{restored_words}
use Rattle.job_report.proofs.Appends.{whole_line}
use Rattle.job_report.proofs.line.Line.restored.Goals as goal

pub returns : goal.returns
returns c =
    whole_line c.count-2.result c.in_ok-text-2.field-0 (decimal c.args.listed) (c.args.self ++ restored_words c.args.put c.args.listed) c.count-2.ensures
    (rw (c.in_ok-text-2.ensures, c.in_ok-count.ensures, c.in_ok-text.ensures) (simp append_assoc refl))
