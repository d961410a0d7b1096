use Rattle.std.proofs.Common.{◌≡◌, ◌+◌, true, false, arith}
use Rattle.std.specs.Prelude.{nat_eq}
use Rattle.std.proofs.lemmas.Bool.Decides.{nat_tests}
use Rattle.job_table.proofs.SpansOf.{handled_inner, handled_last}
use Rattle.job_table.proofs.items.Items.span_after.Goals as goal

pub returns-then-i-span-clause-spans : goal.returns-then-i-span-clause-spans
returns-then-i-span-clause-spans c =
    λ how. let inner : nat_eq (c.args.i + 1) c.span-span.result.left ≡ false = grind (arith, nat_tests, c.if-i-span.true) in
    handled_inner c.args.self.now.list c.args.i c.args.job how c.span-span.result c.span-span.ensures.spans inner

pub returns-clause-spans : goal.returns-clause-spans
returns-clause-spans c =
    λ how. let last : nat_eq (c.args.i + 1) c.span-span.result.left ≡ true = grind (arith, nat_tests, c.if-i-span.false) in
    handled_last c.args.self.now.list c.args.i c.args.job c.left_below.result how c.span-span.result c.span-span.ensures.spans last c.left_below.ensures.none
