-- How many references a table keeps for each target.
use Rattle.std.specs.Prelude.{◌≡◌, ◌%◌, ℕ, Bool, true, false, nat_eq, List, Option, Some, None, count_by, is_some}
use Rattle.std.specs.Option.{unwrap_or}
use Rattle.std.specs.Map.{lookup}
use Rattle.indexmap.specs.IndexMap.{IndexMap}
use Rattle.delf_model.specs.declared.rows.EdgeKey.{EdgeKey}
use Rattle.delf_model.specs.declared.rows.EdgeRow.{EdgeRow}
use Rattle.delf_model.specs.Store.{is_counted}
use Rattle.edge_index.specs.Links.{Entry, rows_of, has_room}
use Rattle.edge_index.specs.Shards.{shard}

-- a target with its count
abbrev pub Count : Type 0
Count = ℕ × ℕ

-- the shard of a target
abbrev pub target_home : ℕ → ℕ
target_home id = id % 16

abbrev pub counts_in : {S : Type 0} → IndexMap ℕ ℕ S → List Count
counts_in refs = refs.entries

-- the counts in each shard
abbrev pub counts_at : {S : Type 0} → List (IndexMap ℕ ℕ S) → ℕ → List Count
counts_at refs n = shard counts_in refs n

-- what one shard keeps for a target, and its count
abbrev pub ref_in : List Count → ℕ → Option ℕ
ref_in refs id = lookup (nat_eq id) refs

abbrev pub count_in : List Count → ℕ → ℕ
count_in refs id = unwrap_or (ref_in refs id) 0

-- the same of all shards
abbrev pub refs_at : (ℕ → List Count) → ℕ → Option ℕ
refs_at refs id = ref_in (refs (target_home id)) id

abbrev pub refs_of : (ℕ → List Count) → ℕ → ℕ
refs_of refs id = unwrap_or (refs_at refs id) 0

-- whether a row that was found, if any, is of a type that counts
abbrev pub row_counts : (ℕ → Bool) → Option EdgeRow → Bool
row_counts counts None = false
row_counts counts (Some row) = counts row.key.edge

-- each target has its count, and a place for it where there is room for an edge into it
pub record AreRefsOf (counts : ℕ → Bool) (links : List Entry) (refs : ℕ → List Count) : Type 0 where
  pub exact : (id : ℕ) → refs_of refs id ≡ count_by (is_counted counts id) (rows_of links)
  pub room : (key : EdgeKey) → has_room links key ≡ true → is_some (refs_at refs key.to) ≡ true
