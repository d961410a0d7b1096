use Rattle.std.proofs.Common.{Option, Some, cond, rules, ap, ◌∙◌}
use Rattle.std.specs.Prelude.{nat_eq}
use Rattle.object_shards.specs.declared.table.Kept.{Kept}
use Rattle.object_shards.specs.Table.{found, renewed}
use Rattle.object_shards.proofs.table.renew.Goals as goal

pub returns-in-Some : goal.returns-in-Some
returns-in-Some c = λ other.
    ((c.get_mut.follows.holds c.with_payload.result).3 (search rules)).0 other
    ∙ ap (λ (kept : Option Kept). cond (nat_eq c.args.id other) kept (found c.args.entries.now.entries other))
    (ap (λ (kept : Kept). Some kept) c.with_payload.ensures ∙ ap (renewed c.args.at c.args.size) c.in-Some.ensures.value)
