use Rattle.std.proofs.Common.{◌≡◌, ◌≤◌, length, drop}
use Rattle.object_shards.specs.Tables.{all_put}
use Rattle.object_shards.proofs.tables.with_rows.Given as goal

abbrev pub invariant-rows : goal.invariant-rows
invariant-rows l = record {
  all : l.all.rows ≡ all_put (drop l.place l.rows) l.fn.table.rows;
  within : l.place ≤ length l.rows;
}

abbrev pub decreases-rows : goal.decreases-rows
decreases-rows l = l.place
