use Rattle.std.proofs.Common.{◌+◌, ◌∙◌, ap, subst, length, sym, arith}
use Rattle.std.specs.List.{filter}
use Rattle.delf_service.specs.declared.replies.LaneOut.{LaneOut}
use Rattle.documents.proofs.Places.{take_past}
use Rattle.script_runner.specs.Blocks.{HasOnlyFed, is_accepted, is_refused, replies_of}
use Rattle.script_runner.proofs.LaneLines.{lists_more, each_more, each_all}
use Rattle.script_runner.proofs.lanes.counts.Goals as goal

pub loop-out-preserved : goal.loop-out-preserved
loop-out-preserved c = record {
  accepted = lists_more is_accepted (λ (out : LaneOut). out.replies) c.args.outs.now c.loop-out.out-index c.out-item.result c.loop-out.so_far.0 c.in_ok-so_far.so_far.0 (omega arith) c.out-item.is
      c.loop-out.invariant.accepted (c.in_ok-so_far.ensures.accepted ∙ ap (λ xs. c.loop-out.so_far.0 + length (filter is_accepted xs)) c.as_slice.ensures);
  refused = lists_more is_refused (λ (out : LaneOut). out.replies) c.args.outs.now c.loop-out.out-index c.out-item.result c.loop-out.so_far.1 c.in_ok-so_far.so_far.1 (omega arith) c.out-item.is
      c.loop-out.invariant.refused (c.in_ok-so_far.ensures.refused ∙ ap (λ xs. c.loop-out.so_far.1 + length (filter is_refused xs)) c.as_slice.ensures);
  fed = each_more (λ (out : LaneOut). HasOnlyFed out.replies) c.args.outs.now c.loop-out.out-index c.out-item.result (omega arith) c.out-item.is c.loop-out.invariant.fed
      (subst HasOnlyFed c.as_slice.ensures c.in_ok-so_far.ensures.fed);
}

pub returns-clause-fed : goal.returns-clause-fed
returns-clause-fed c = each_all (λ (out : LaneOut). HasOnlyFed out.replies) c.args.outs.now c.loop-out.out-index (omega arith) c.loop-out.invariant.fed

pub returns-clause-accepted : goal.returns-clause-accepted
returns-clause-accepted c =
    c.loop-out.invariant.accepted ∙ ap (λ xs. length (filter is_accepted (replies_of xs))) (take_past c.args.outs.now c.loop-out.out-index (omega arith))

pub returns-clause-refused : goal.returns-clause-refused
returns-clause-refused c =
    c.loop-out.invariant.refused ∙ ap (λ xs. length (filter is_refused (replies_of xs))) (take_past c.args.outs.now c.loop-out.out-index (omega arith))
