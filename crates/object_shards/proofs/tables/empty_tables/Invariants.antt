use Rattle.std.proofs.Common.{◌≡◌, ◌≤◌, ◌-◌, ℕ, [], length}
use Rattle.object_shards.specs.Tables.{rows_at}
use Rattle.object_shards.proofs.tables.empty_tables.Given as goal

abbrev pub invariant-tables : goal.invariant-tables
invariant-tables l = record {
  within : length l.tables.items ≤ 16;
  none : (table : ℕ) → rows_at l.tables.items table ≡ [];
}

abbrev pub decreases-tables : goal.decreases-tables
decreases-tables l = 16 - length l.tables.items
