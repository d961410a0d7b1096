use Rattle.std.proofs.Common.{◌∙◌, ap, ◌++◌}
use Rattle.documents.proofs.Routes.{lines_more}
use Rattle.documents.proofs.check.route_lines.Goals as goal

pub loop-kind-preserved : goal.loop-kind-preserved
loop-kind-preserved c =
    lines_more c.args.schema.now c.loop-kind.kind c.loop-kind.text.items c.extend_from_slice.new.self.items c.in_ok-line.line c.loop-kind.invariant
    c.in_ok-line.ensures (c.in_ok-extend_from_slice.ensures.items ∙ ap (λ t. c.loop-kind.text.items ++ t) c.as_slice.ensures)
