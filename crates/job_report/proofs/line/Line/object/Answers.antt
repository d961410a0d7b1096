use Rattle.std.proofs.Common.{◌++◌, append_assoc, refl}
use Rattle.job_report.specs.Words.{object_words, owner_words}
use Rattle.job_report.proofs.Appends.{whole_line}
use Rattle.job_report.proofs.line.Line.object.Goals as goal

pub returns : goal.returns
returns c =
    whole_line c.owner.result c.in_ok-quoted.field-0 (owner_words c.args.owner) (c.args.self ++ object_words c.args.row.now c.args.kind.now c.args.payload.now c.args.owner) c.owner.ensures
    (rw (c.in_ok-quoted.ensures, c.in_ok-text-4.ensures, c.in_ok-count.ensures, c.in_ok-text-3.ensures, c.in_ok-name.ensures, c.in_ok-text-2.ensures, c.in_ok-id.ensures, c.in_ok-text.ensures) (simp append_assoc refl))
