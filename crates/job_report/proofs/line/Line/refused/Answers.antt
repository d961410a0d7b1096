use Rattle.std.proofs.Common.{◌++◌, append_assoc, refl}
use Rattle.job_report.specs.Texts.{refused_words}
use Rattle.job_report.specs.Words.{refusal_words}
use Rattle.job_report.proofs.Appends.{whole_line}
use Rattle.job_report.proofs.line.Line.refused.Goals as goal

pub returns : goal.returns
returns c =
    whole_line c.why.result c.in_ok-text-3.field-0 (refusal_words c.args.refusal.now c.args.name.now) (c.args.self ++ refused_words c.args.refusal.now c.args.len c.args.name.now) c.why.ensures
    (rw (c.in_ok-text-3.ensures, c.in_ok-count-2.ensures, c.in_ok-text-2.ensures, c.in_ok-count.ensures, c.in_ok-text.ensures, c.number_of.ensures) (simp append_assoc refl))
