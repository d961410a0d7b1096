use Rattle.std.proofs.Common.{◌≡◌, ◌≤◌, ◌-◌, length, drop}
use Rattle.delf_model.specs.Store.{least_due}
use Rattle.object_shards.specs.Shards.{rows_of}
use Rattle.object_shards.proofs.shards.due_from.Given as goal

abbrev pub invariant-dues : goal.invariant-dues
invariant-dues l = record {
  same : least_due l.moment l.after (rows_of (drop l.fn.from l.shards)) ≡ least_due l.moment l.after (rows_of (drop l.from l.shards));
  within : l.from ≤ length l.shards;
}

abbrev pub decreases-dues : goal.decreases-dues
decreases-dues l = length l.shards - l.from
