use Rattle.std.proofs.Common.{◌≡◌, ◌+◌, length, take}
use Rattle.std.specs.List.{filter}
use Rattle.script_runner.specs.Blocks.{HasOnlyFed, is_accepted, is_refused}
use Rattle.script_runner.proofs.lanes.counts_with.Given as goal

abbrev pub invariant-loop-reply : goal.invariant-loop-reply
invariant-loop-reply l = record {
  accepted : l.so_far.0 ≡ l.fn.before.0 + length (filter is_accepted (take l.reply-index l.replies));
  refused : l.so_far.1 ≡ l.fn.before.1 + length (filter is_refused (take l.reply-index l.replies));
  fed : HasOnlyFed (take l.reply-index l.replies);
}
