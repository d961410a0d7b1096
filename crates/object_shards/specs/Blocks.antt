-- The least dues of blocks of 64 neighbouring shards.
use Rattle.std.specs.Prelude.{ℕ, ◌+◌, ◌*◌, ◌/◌, List, [], ◌∷◌, take, drop, nat_lt, if◌then◌else◌}
use Rattle.object_shards.specs.declared.shard.Shard.{Shard}

-- the least of the shards' least dues, or the greatest number of 64 bits where there is no shard
abbrev pub least_in : List Shard → ℕ
least_in [] = 18446744073709551615
least_in (shard ∷ shards) = if nat_lt shard.least (least_in shards) then shard.least else least_in shards

-- the shards of a block by its number; the last block may have fewer than 64
abbrev pub block_of : ℕ → List Shard → List Shard
block_of block shards = take 64 (drop (64 * block) shards)

-- how many blocks so many shards make
abbrev pub block_count : ℕ → ℕ
block_count shards = (shards + 63) / 64
