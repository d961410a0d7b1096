use Rattle.std.proofs.Common.{◌≡◌, length, take}
use Rattle.std.specs.List.{filter}
use Rattle.script_runner.specs.Blocks.{AreFed, is_accepted, is_refused, replies_of}
use Rattle.script_runner.proofs.lanes.counts.Given as goal

abbrev pub invariant-loop-out : goal.invariant-loop-out
invariant-loop-out l = record {
  accepted : l.so_far.0 ≡ length (filter is_accepted (replies_of (take l.out-index l.outs)));
  refused : l.so_far.1 ≡ length (filter is_refused (replies_of (take l.out-index l.outs)));
  fed : AreFed (take l.out-index l.outs);
}
