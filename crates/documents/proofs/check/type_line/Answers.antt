use Rattle.std.proofs.Common.{sym, ◌∙◌}
use Rattle.documents.proofs.Routes.{one_line_if}
use Rattle.documents.proofs.check.type_line.Goals as goal

pub returns-then-is_by_any : goal.returns-then-is_by_any
returns-then-is_by_any c =
    one_line_if c.args.schema.now c.args.kind c.routed_line.result (sym c.is_by_any.ensures ∙ c.if-is_by_any.true) c.routed_line.ensures
