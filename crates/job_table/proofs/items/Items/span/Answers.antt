use Rattle.std.proofs.Common.{sym, ap}
use Rattle.job_table.specs.Parts.{ItemPart}
use Rattle.job_table.proofs.SpansOf.{kept_spans, span_over}
use Rattle.job_table.proofs.items.Items.span.Goals as goal

pub returns-clause-spans : goal.returns-clause-spans
returns-clause-spans c =
    kept_spans _ c.args.self.now.list _ _ _ c.args.job c.span_in.result c.self.invariant.1 (ap (λ (m : ItemPart). m.list) c.self.view_is) (sym c.span_in.ensures)

pub returns-clause-within : goal.returns-clause-within
returns-clause-within c =
    span_over _ c.args.self.now.list _ _ _ c.args.job c.span_in.result c.self.invariant.1 (ap (λ (m : ItemPart). m.list) c.self.view_is) (sym c.span_in.ensures)
