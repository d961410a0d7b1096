use Rattle.std.proofs.Common.{◌+◌, ◌∙◌, ap, length, arith}
use Rattle.std.specs.List.{filter}
use Rattle.delf_service.specs.Lanes.{IsStarved}
use Rattle.delf_service.specs.declared.replies.LaneReply.{LaneReply}
use Rattle.documents.proofs.Places.{take_past}
use Rattle.script_runner.specs.Blocks.{is_accepted, is_refused}
use Rattle.script_runner.proofs.LaneLines.{filter_more, each_more, each_all}
use Rattle.script_runner.proofs.lanes.counts_with.Goals as goal

pub loop-reply-preserved : goal.loop-reply-preserved
loop-reply-preserved c = record {
  accepted = filter_more is_accepted c.args.replies.now c.loop-reply.reply-index c.args.before.0 c.reply-item.result c.loop-reply.so_far.0 c.in_ok-so_far.so_far.0 (omega arith) c.reply-item.is
      c.loop-reply.invariant.accepted c.in_ok-so_far.ensures.accepted;
  refused = filter_more is_refused c.args.replies.now c.loop-reply.reply-index c.args.before.1 c.reply-item.result c.loop-reply.so_far.1 c.in_ok-so_far.so_far.1 (omega arith) c.reply-item.is
      c.loop-reply.invariant.refused c.in_ok-so_far.ensures.refused;
  fed = each_more (λ (r : LaneReply). IsStarved r → ⊥) c.args.replies.now c.loop-reply.reply-index c.reply-item.result (omega arith) c.reply-item.is c.loop-reply.invariant.fed
      c.in_ok-so_far.ensures.fed;
}

pub returns-clause-fed : goal.returns-clause-fed
returns-clause-fed c = each_all (λ (r : LaneReply). IsStarved r → ⊥) c.args.replies.now c.loop-reply.reply-index (omega arith) c.loop-reply.invariant.fed

pub returns-clause-accepted : goal.returns-clause-accepted
returns-clause-accepted c =
    c.loop-reply.invariant.accepted ∙ ap (λ xs. c.args.before.0 + length (filter is_accepted xs)) (take_past c.args.replies.now c.loop-reply.reply-index (omega arith))

pub returns-clause-refused : goal.returns-clause-refused
returns-clause-refused c =
    c.loop-reply.invariant.refused ∙ ap (λ xs. c.args.before.1 + length (filter is_refused xs)) (take_past c.args.replies.now c.loop-reply.reply-index (omega arith))
