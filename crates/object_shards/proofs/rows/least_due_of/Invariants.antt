use Rattle.std.proofs.Common.{◌≡◌, ◌≤◌, length, drop}
use Rattle.object_shards.specs.Rows.{least_of}
use Rattle.object_shards.proofs.rows.least_due_of.Given as goal

abbrev pub invariant-rows : goal.invariant-rows
invariant-rows l = record {
  least : l.least ≡ least_of (drop l.place l.rows);
  within : l.place ≤ length l.rows;
}

abbrev pub decreases-rows : goal.decreases-rows
decreases-rows l = l.place
