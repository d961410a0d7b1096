use Rattle.std.proofs.Common.{arith}
use Rattle.schema_checks.proofs.Printed.{first_edges_all, first_edges_push}
use Rattle.schema_checks.proofs.checked.Checked.of.Goals as goal

pub loop-kind-preserved : goal.loop-kind-preserved
loop-kind-preserved c =
    first_edges_push c.args.rules c.loop-kind.kind c.loop-kind.firsts.items c.push.new.self.items c.first_edge.result
    c.loop-kind.invariant.0 c.loop-kind.invariant.1 c.first_edge.ensures c.in_ok-push.ensures.items

pub invariant_of-result : goal.invariant_of-result
invariant_of-result c = record {
  each = first_edges_all c.args.rules c.loop-kind.firsts.items c.objects_len-kind-end.ensures.rules (omega arith) (λ k h. c.loop-kind.invariant.1 k (omega arith));
}
