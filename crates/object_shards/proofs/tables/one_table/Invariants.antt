use Rattle.std.proofs.Common.{◌≡◌, ◌≤◌, length, drop}
use Rattle.object_shards.specs.Tables.{joined}
use Rattle.object_shards.proofs.tables.one_table.Given as goal

abbrev pub invariant-tables : goal.invariant-tables
invariant-tables l = record {
  all : l.all.rows ≡ joined (drop l.place l.tables);
  within : l.place ≤ length l.tables;
}

abbrev pub decreases-tables : goal.decreases-tables
decreases-tables l = l.place
