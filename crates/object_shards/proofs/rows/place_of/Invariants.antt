use Rattle.std.proofs.Common.{◌≤◌, ◌-◌, length}
use Rattle.object_shards.specs.Rows.{place_in}
use Rattle.object_shards.proofs.rows.place_of.Given as goal

abbrev pub invariant-halves : goal.invariant-halves
invariant-halves l = record {
  low : l.low ≤ place_in l.fn.id l.rows;
  high : place_in l.fn.id l.rows ≤ l.high;
  within : l.high ≤ length l.rows;
}

abbrev pub decreases-halves : goal.decreases-halves
decreases-halves l = l.high - l.low
